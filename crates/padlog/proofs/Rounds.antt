-- A turn of padlog's loop: what is printed already and what is left to print make the whole text, before the turn and after it, or at the end.
use Rattle.std.proofs.Common.{ℕ, suc, ◌+◌, ◌-◌, ◌*◌, ◌<◌, ◌≤◌, ◌≡◌, sym, ap, ◌∙◌, cond, List, ◌++◌, append_assoc, append-nil, arith, length, take, eqb}
use Rattle.std.proofs.Math.Nat.{min-eq_left}
use borrow.Author.Tests.{eq-eqb, ne_eqb}
use Rattle.rules.specs.declared.Hub.{Hub}
use Rattle.rules.specs.Pump.{Run}
use Rattle.lines.specs.Appending.{Appended}
use Rattle.lines.specs.Text.{held_of, lines_of}
use Rattle.lines.proofs.Laws.{Laid, laid, grown, laid-take, appended-length}
use Rattle.padlog.specs.declared.Tally.{Tally}
use Rattle.padlog.specs.Log.{Told, goes_on, tallied, last_line, pump_all, printed, rounds, rounds_of}
use Rattle.padlog.specs.Bounds.{Bounded, pump-bounded}

-- n calls are done: `whole` is the text so far and that of the calls to come; a call prints at most 744 lines and takes at most its allowance
pub record Standing (batch whole : List ℕ) (h : Hub) (place : ℕ) (out : List ℕ) (steps : ℕ) (text : List ℕ) (at n : ℕ) : Type 0 where
  pub told : take at text ++ rounds_of (rounds - n) h batch place out steps ≡ whole
  pub room : at ≤ 69936 * n
  pub few : steps ≤ 65535 * n
  pub size : length text ≡ 559538
  pub long : length out ≡ 16384

module _ (batch whole : List ℕ) (h : Hub) (place : ℕ) (out : List ℕ) (steps : ℕ) (text : List ℕ) (at n : ℕ)
    (s : Standing batch whole h place out steps text at n) (more : n < rounds)
    (r : Run) (er : r ≡ pump_all h batch place out) (t : Tally) (et : t ≡ tallied r) where
  bounded : Bounded r out 65535
  unfolding pump_all
  bounded = rw er (pump-bounded h batch place out 65535)

  -- all the steps that were made, so they fit their type
  pub steps-few : steps + t.steps ≤ 65535 * (n + 1)
  steps-few =
      let made : t.steps ≤ 65535 = rw et bounded.few in
      let few : steps ≤ 65535 * n = s.few in
      omega arith

  events-held : held_of r.out t.events ≡ t.events
  unfolding held_of
  events-held =
      let held : 22 * t.events ≤ length out = rw et bounded.held in
      let same : length r.out ≡ length out = bounded.long in
      min-eq_left (omega arith)

  module _ (text' : List ℕ) (at' : ℕ) (a : Appended (94 * held_of r.out t.events) (lines_of r.out (held_of r.out t.events)) text at text' at') where
    events-laid : Laid 69936 (lines_of r.out t.events) text at text' at'
    events-laid =
        let held : 22 * t.events ≤ length out = rw et bounded.held in
        let long : length out ≡ 16384 = s.long in
        let room : at ≤ 69936 * n = s.room in
        let size : length text ≡ 559538 = s.size in
        let is : held_of r.out t.events ≡ t.events = events-held in
        grown _ 69936 _ _ _ _ _ _ (laid _ _ _ _ _ _ a (omega arith)) (ap (lines_of r.out) is) (omega arith)

    so_far : take at' text' ≡ take at text ++ lines_of r.out t.events
    so_far =
        let room : at ≤ 69936 * n = s.room in
        let size : length text ≡ 559538 = s.size in
        laid-take _ _ _ _ _ _ events-laid (omega arith)

    -- what the calls to come print, from this one on
    to-come : rounds_of (rounds - n) h batch place out steps
        ≡ lines_of r.out t.events
        ++ cond (eqb t.ends goes_on) (rounds_of (rounds - (n + 1)) r.pumped.hub batch t.place r.out (steps + t.steps)) (last_line t steps)
    unfolding rounds_of printed
    to-come =
        let left : rounds - n ≡ suc (rounds - (n + 1)) = omega arith in
        rw (left, et, ← er)

    still : length text' ≡ 559538
    still =
        let same : length text' ≡ length text = appended-length _ _ _ _ _ _ a in
        let size : length text ≡ 559538 = s.size in
        omega arith

    further : at' ≤ 69936 * (n + 1)
    further =
        let room : at ≤ 69936 * n = s.room in
        let next : at' ≡ at + length (lines_of r.out t.events) = events-laid.place in
        let short : length (lines_of r.out t.events) ≤ 69936 = events-laid.short in
        omega arith

    pub goes-on : t.ends ≡ goes_on → Standing batch whole r.pumped.hub t.place r.out (steps + t.steps) text' at' (n + 1)
    goes-on e =
        let same : length r.out ≡ length out = bounded.long in
        let long : length out ≡ 16384 = s.long in
        record {
          told =
              ap (λ (l : List ℕ). l ++ rounds_of (rounds - (n + 1)) r.pumped.hub batch t.place r.out (steps + t.steps)) so_far ∙ append_assoc (take at text) (lines_of r.out t.events) _
              ∙ ap (λ (l : List ℕ). take at text ++ l) (sym (to-come ∙ rw (eq-eqb _ _ e))) ∙ s.told;
          room = further;
          few = steps-few;
          size = still;
          long = omega arith;
        }

    -- where the last line is to be printed there is room for it
    pub last-room : at' + 50 ≤ length text'
    last-room =
        let size : length text' ≡ 559538 = still in
        let room : at' ≤ 69936 * (n + 1) = further in
        omega arith

    module _ (text'' : List ℕ) (at'' : ℕ) (b : Appended 50 (last_line t steps) text' at' text'' at'') where
      last-laid : Laid 50 (last_line t steps) text' at' text'' at''
      last-laid = laid _ _ _ _ _ _ b last-room

      pub all_told : (t.ends ≡ goes_on → ⊥) → Told whole text'' at''
      all_told ends =
          let room : at' + 50 ≤ length text' = last-room in
          let same : length text'' ≡ length text' = appended-length _ _ _ _ _ _ b in
          let next : at'' ≡ at' + length (last_line t steps) = last-laid.place in
          let short : length (last_line t steps) ≤ 50 = last-laid.short in
          record {
            is =
                laid-take _ _ _ _ _ _ last-laid last-room ∙ ap (λ (l : List ℕ). l ++ last_line t steps) so_far ∙ append_assoc (take at text) (lines_of r.out t.events) _
                ∙ ap (λ (l : List ℕ). take at text ++ l) (sym (to-come ∙ rw (ne_eqb _ _ ends))) ∙ s.told;
            within = omega arith;
          }

-- where every call is done, all is printed
pub none_left : (batch whole : List ℕ) (h : Hub) (place : ℕ) (out : List ℕ) (steps : ℕ) (text : List ℕ) (at n : ℕ) → n ≡ rounds → Standing batch whole h place out steps text at n → Told whole text at
unfolding rounds_of
none_left batch whole h place out steps text at n e s =
    let room : at ≤ 69936 * n = s.room in
    let size : length text ≡ 559538 = s.size in
    let left : rounds - n ≡ 0 = omega arith in
    record { is = sym (append-nil (take at text)) ∙ rw left at s.told; within = omega arith }
