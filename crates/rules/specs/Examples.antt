-- Closed examples of the rules, computed by the checker: each shows a sentence of document 01, or a reading of it, on the smallest values that tell it
-- from a slip. One file for each file of definitions; a table of cases is one theorem.
mod Table
mod Names
mod Forms
mod Sheets
mod Places
mod Events
mod Zones
mod Dispatch
mod Filters
mod State
mod Refusals
mod Desk
mod Hub
mod Step
mod Pump
mod Tilt
mod Repeat
mod Calls
mod Queries
mod Down
mod Old
mod Answers
