-- Whatever is played, only events of buttons, and axis events that no conversion takes, wait, all of registered pads.
use Rattle.std.specs.Prelude.{ℕ, zero, suc, ◌+◌, ◌<◌, Bool, true, false, List, [], ◌++◌, ◌≡◌, refl, eqb, get_or}
use Rattle.std.proofs.Common.{sym, ◌∙◌, ap, subst, arith, ne_eqb}
use Rattle.rules.specs.declared.Hub.{Hub}
use Rattle.rules.specs.declared.Event.{Event}
use Rattle.rules.specs.declared.EventForm.{EventForm}
use Rattle.rules.specs.declared.RawRecord.{RawRecord}
use Rattle.rules.specs.Names.{nowhere, no_name, positive_code, negative_code}
use Rattle.rules.specs.Sheets.{element_axis}
use Rattle.rules.specs.Places.{place_of}
use Rattle.rules.specs.Refusals.{thresholds_refusal}
use Rattle.rules.specs.State.{next_counter}
use Rattle.rules.specs.Dispatch.{single, moving, move_of, dispatch_by, dispatch_of}
use Rattle.rules.specs.Hub.{element_at, pressed_at, front_of, view_of}
use Rattle.rules.specs.Step.{blank_record, marked_of, updated_of, updated_at, record_kind, taken_of, step_hub}
use Rattle.rules.specs.Calls.{fresh_hub, new_by, new_of, register_refusal, register_by, register_as, update_form_by, counted_at, inc_of, reset_of}
use Rattle.theory_calls.specs.Waiting.{waiting_list, ring_list, rest_of, popped, empty-rest}
use Rattle.theory_calls.specs.Queue.{pushes_in}
use Rattle.theory_calls.proofs.Queue.{nothing-lost}
use Rattle.theory_calls.proofs.Reach.{reached-sound}
use Rattle.pad.specs.Lookup.{place-small}
use Rattle.theory_registered.specs.Columns.{either-taken}
use Rattle.theory_registered.specs.Pads.{Desk}
use Rattle.theory_registered.proofs.Pads.{reached-desk}
use Rattle.theory_history.specs.Lemmas.Turns.{more_of}
use Rattle.theory_history.specs.Lemmas.Steps.{Ready, look, look_at, front-taken, record-taken, pushes-of}
use Rattle.theory_history.specs.Lemmas.Waits.{Sheet, sheet_of, All, empty, more, all_append, head_of, tail_of, Fit}
use Rattle.theory_history.specs.Lemmas.Exact.{Apart, queues}
use Rattle.theory_history.specs.Lemmas.Views.{sees}
use Rattle.theory_history.specs.Lemmas.Serve.{same-sheet}
use Rattle.theory_history.specs.Lemmas.Accepted.{Good, good}
use Rattle.theory_history.specs.Lemmas.Take.{gives-is, queue_of}
use Rattle.theory_history.specs.Lemmas.Other.{Clear, move-aside}
use Rattle.theory_history.specs.Lemmas.Records.{moving-kind}
use Rattle.theory_history.specs.Played.{Played, fresh, register, take, serve, inc, reset, repeat, reached, ready, refusal, update-is}
use Rattle.theory_history.specs.Lemmas.Register.{next, past-axial, same_queue, still-fits}

-- a place after the last, that no event is of
abbrev beyond : ℕ
beyond = nowhere + 1

misses : (codes : List ℕ) (p c : ℕ) → eqb (place_of codes p c) beyond ≡ false
misses codes p c = ne_eqb (place_of codes p c) beyond (λ e. omega (arith, place-small codes p c))

-- what is apart fits
apart_fits : (s : Sheet) {q : List Event} → All (Apart s beyond) q → All (Fit s) q
apart_fits s empty = empty
apart_fits s (more a rest) = more a.fit (apart_fits s rest)

-- ---- the steps

serve-tidy : (h : Hub) → Ready h → (desk : Desk h) → (some : 0 < h.waiting) → waiting_list (step_hub h look) ≡ rest_of h ++ pushes_in h look
    → All (Fit (sheet_of h)) (waiting_list h) → All (Fit (sheet_of h)) (waiting_list (step_hub h look))
serve-tidy h w desk some lost all =
    let s = sheet_of h in
    let v = view_of (marked_of h blank_record) (front_of h) in
    let rest = subst (All (Fit s)) (popped h some) all in
    let z = queues s beyond (past-axial h desk beyond (omega arith)) v (head_of rest) (sees h blank_record w desk (front_of h)) in
    let queue : waiting_list (step_hub h look) ≡ rest_of h ++ more_of v (front_of h) =
    lost ∙ ap (λ (es : List Event). rest_of h ++ es) (pushes-of h look w (single (front_of h)) (front-taken h some)) in
    subst (All (Fit s)) (sym queue) (all_append (rest_of h) (more_of v (front_of h)) (tail_of rest) (apart_fits s z))

take-tidy : (h : Hub) → Ready h → (desk : Desk h) → (r : RawRecord) → Good h r → h.waiting ≡ 0
    → waiting_list (step_hub h (look_at r)) ≡ rest_of h ++ pushes_in h (look_at r) → All (Fit (sheet_of h)) (waiting_list (step_hub h (look_at r)))
unfolding dispatch_of record_kind
take-tidy h w desk r ok none lost =
    let s = sheet_of h in
    let at = place_of h.codes r.pad r.code in
    let d = dispatch_by (move_of r.kind) r (get_or h.names at no_name) (element_at h at) (pressed_at h at) h.pressed h.released h.reversed in
    let taken : taken_of h (look_at r) ≡ d = record-taken h r none ∙ gives-is h r w in
    let kind : move_of r.kind ≡ moving → get_or h.kinds at 0 ≡ element_axis =
    λ m. ok.element (omega (arith, moving-kind r.kind m)) ∙ rw (moving-kind r.kind m) in
    let clear : (n : ℕ) → Clear s beyond r.pad n =
    λ n. record { plus = λ t. misses h.codes r.pad (positive_code n); minus = λ t. misses h.codes r.pad (negative_code n) } in
    let fine =
    move-aside s beyond (past-axial h desk beyond (omega arith)) r ok.pad (λ e. view_of (marked_of h r) e) (λ e. sees h r w desk e)
    (misses h.codes r.pad r.code) (get_or h.names at no_name) (clear _) (clear _) refl (element_at h at) (pressed_at h at) h.pressed h.released h.reversed (move_of r.kind) kind in
    let queue : waiting_list (step_hub h (look_at r)) ≡ queue_of d (view_of (marked_of h r) d.event) =
    lost ∙ (ap (λ (es : List Event). es ++ pushes_in h (look_at r)) (empty-rest h none) ∙ pushes-of h (look_at r) w d taken) in
    subst (All (Fit s)) (sym queue) (apart_fits s fine.queue)

register-fits : (h : Hub) (s : List ℕ) (desk : Desk h) (ok : register_refusal true h.pads s ≡ 0) {es : List Event} → All (Fit (sheet_of h)) es
    → All (Fit (sheet_of (next h s desk ok))) es
register-fits h s desk ok empty = empty
register-fits h s desk ok (more w rest) = more (still-fits h s desk ok w) (register-fits h s desk ok rest)

register-tidy : (number : ℕ) (h : Hub) (s : List ℕ) (desk : Desk h) (archived : Bool) → register_refusal archived h.pads s ≡ number
    → All (Fit (sheet_of h)) (waiting_list h) → All (Fit (sheet_of (register_by number h s).hub)) (waiting_list (register_by number h s).hub)
register-tidy zero h s desk archived taken all =
    let e = either-taken archived h.pads s taken in
    subst (All (Fit (sheet_of (next h s desk e)))) (sym (same_queue h s desk e)) (register-fits h s desk e all)
register-tidy (suc number) h s desk archived taken all = all

new-tidy : (number : ℕ) (h : Hub) → number ≡ 0 → waiting_list h ≡ [] → All (Fit (sheet_of (new_by number h).hub)) (waiting_list (new_by number h).hub)
new-tidy zero h e none = subst (All (Fit (sheet_of h))) (sym none) empty
new-tidy (suc number) h e none = absurd (omega arith)

form-tidy : (number : ℕ) (h : Hub) (f : EventForm) → All (Fit (sheet_of h)) (waiting_list h)
    → All (Fit (sheet_of (update_form_by number h f).hub)) (waiting_list (update_form_by number h f).hub)
unfolding updated_of updated_at waiting_list
form-tidy zero h f all = all
form-tidy (suc number) h f all = all

counted-tidy : (h : Hub) (n : ℕ) → All (Fit (sheet_of h)) (waiting_list h) → All (Fit (sheet_of (counted_at h n))) (waiting_list (counted_at h n))
unfolding counted_at waiting_list
counted-tidy h n all = all

-- ---- whatever is played

pub tidy : {h : Hub} {rs : List RawRecord} → Played h rs → All (Fit (sheet_of h)) (waiting_list h)
unfolding new_of register_as inc_of reset_of
tidy (fresh pressed released reversed ok) =
    new-tidy (thresholds_refusal pressed released) (fresh_hub pressed released reversed true true) ok (unfold fresh_hub waiting_list ring_list in refl)
tidy (register {h} archived sheet w) = register-tidy (register_refusal archived h.pads sheet) h sheet (reached-desk (reached w)) archived refl (tidy w)
tidy (take {h} r none ok w) =
    subst (λ (s : Sheet). All (Fit s) (waiting_list (step_hub h (look_at r)))) (sym (same-sheet h (look_at r)))
    (take-tidy h (ready w) (reached-desk (reached w)) r (good h r ok) none (nothing-lost h (look_at r) (reached-sound (reached w))))
tidy (serve {h} some w) =
    subst (λ (s : Sheet). All (Fit s) (waiting_list (step_hub h look))) (sym (same-sheet h look))
    (serve-tidy h (ready w) (reached-desk (reached w)) some (nothing-lost h look (reached-sound (reached w))) (tidy w))
tidy (inc {h} w) = counted-tidy h (next_counter h.counter) (tidy w)
tidy (reset {h} w) = counted-tidy h 0 (tidy w)
tidy (repeat {h} bytes is w) =
    subst (λ (g : Hub). All (Fit (sheet_of g)) (waiting_list g)) (sym (update-is h bytes is)) (form-tidy (refusal h bytes is) h is.form (tidy w))
