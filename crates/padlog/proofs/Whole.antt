-- padlog's whole text, by what registration answers.
use Rattle.std.proofs.Common.{ℕ, ◌+◌, ◌≤◌, ◌≡◌, sym, ap, ◌∙◌, true, false, List, ◌++◌, arith, length, take, drop, Err, Ok}
use Rattle.std.specs.Float.{binary32}
use Rattle.std.specs.Float.Ieee.{of_bits}
use Rattle.rules.specs.declared.Answered.{Answered}
use Rattle.rules.specs.declared.Registered.{Registered}
use Rattle.rules.specs.Calls.{new_of, register_of}
use Rattle.lines.specs.Letters.{newline}
use Rattle.lines.specs.Text.{sheet_word, sheet_line, number_text}
use Rattle.lines.specs.Appending.{Appended}
use Rattle.lines.proofs.Laws.{Laid, laid, laid-take, appended-length}
use Rattle.padlog.specs.Log.{Told, sheet_end, desk_hub, rounds, rounds_of, log_by, log_of}
use Rattle.rules.specs.declared.Refusal.{Refusal}

module _ (input out : List ℕ) (end : ℕ) (n : Answered) (r : Registered) (ee : end ≡ sheet_end input)
    (en : n ≡ new_of (of_bits binary32 0x3f400000) (of_bits binary32 0x3f000000) false true true) (er : r ≡ register_of n.hub (take end input)) where
  hub-is : n.hub ≡ desk_hub
  unfolding desk_hub
  hub-is = ap (λ (a : Answered). a.hub) en

  log_is : log_of input out ≡ log_by r.answer r.hub (drop end input) out
  unfolding log_of
  log_is = rw (← ee, ← hub-is, ← er)

  -- the sheet is taken
  pub pumps : (p : ℕ) (batch text : List ℕ) (k : ℕ) → r.answer ≡ Ok p → batch ≡ drop end input
      → Told (rounds_of rounds r.hub batch 0 out 0) text k → Told (log_of input out) text k
  pumps p batch text k e eb t = rw (log_is, e, ← eb) t

  -- the sheet is refused
  pub refuses : (refusal : Refusal) (before text : List ℕ) (k : ℕ) → r.answer ≡ Err refusal → length before ≡ 559538
      → Appended 27 (sheet_word ++ number_text refusal.number newline) before 0 text k → Told (log_of input out) text k
  unfolding sheet_line
  refuses refusal before text k e size a =
      let l : Laid 27 (sheet_word ++ number_text refusal.number newline) before 0 text k = laid _ _ _ _ _ _ a (omega arith) in
      let same : length text ≡ length before = appended-length _ _ _ _ _ _ a in
      let next : k ≡ 0 + length (sheet_word ++ number_text refusal.number newline) = l.place in
      let short : length (sheet_word ++ number_text refusal.number newline) ≤ 27 = l.short in
      let whole : log_of input out ≡ sheet_line refusal.number = log_is ∙ rw e in
      record { is = laid-take _ _ _ _ _ _ l (omega arith) ∙ sym whole; within = omega arith }
