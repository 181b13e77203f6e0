-- Demand 3: "each record hands out at most four events before the next is taken". A record's step brings at most three events beside the one that goes out, a step
-- from the queue uses one of those up, and no call between the steps brings any. Pumps counts by it.
use Rattle.std.specs.Prelude.{ℕ, ◌+◌, ◌<◌, zero, suc, ◌*◌, Bool, false, cond, ◌&&◌, List, ◌∷◌, ◌++◌, [], ◌≡◌, refl, eqb, ltb, get_or, None, Option, Some}
use Rattle.std.proofs.Math.Bool.{true}
use Rattle.std.proofs.Common.{sym, ◌∙◌, ltb-true}
use Rattle.std.proofs.Math.Path.{ap, subst}
use native.Mathlib.Omega.{arith}
use Rattle.rules.specs.declared.Hub.{Hub}
use Rattle.rules.specs.declared.Event.{Event}
use Rattle.rules.specs.declared.NextRecord.{NextRecord}
use Rattle.rules.specs.declared.RawRecord.{RawRecord}
use Rattle.rules.specs.declared.Dispatched.{Dispatched}
use Rattle.rules.specs.Names.{nowhere, no_name, partner_of, pad_limit, flags_per_pad, flag_of}
use Rattle.rules.specs.Places.{place_of, named_of, cleared_of}
use Rattle.rules.specs.Refusals.{thresholds_refusal, form_refusal}
use Rattle.rules.specs.Events.{name_of}
use Rattle.rules.specs.Filters.{filtered_of}
use Rattle.rules.specs.Dispatch.{move_of, dispatch_by, single}
use Rattle.rules.specs.Hub.{element_at, pressed_at, front_of, view_at, view_of, flag_place}
use Rattle.rules.specs.Step.{blank_record, marks_cleared, marked_of, flags_set, pushed_of, filtered_hub, updated_at, updated_of, filtered_in, taken_of, step_hub}
use Rattle.theory_calls.specs.Waiting.{waiting_list, rest_of, popped, empty-rest}
use Rattle.theory_calls.specs.Queue.{pushes_in}
use Rattle.theory_calls.proofs.Queue.{nothing-lost}
use Rattle.theory_calls.proofs.Reach.{reached-sound}
use Rattle.theory_registered.specs.Pads.{Desk}
use Rattle.theory_registered.proofs.Pads.{reached-desk}
use Rattle.theory_history.specs.Lemmas.Turns.{more_of, ev}
use Rattle.theory_history.specs.Lemmas.Steps.{Ready, look, look_at, front-taken, pushes-of}
use Rattle.theory_history.specs.Lemmas.Waits.{sheet_of, All, empty, head_of, Fit, Sheet, fit-pad}
use Rattle.theory_history.specs.Lemmas.Views.{sees, partner-is}
use Rattle.theory_history.specs.Lemmas.Take.{queue_of, taken_as}
use Rattle.theory_history.specs.Lemmas.Records.{none-waits}
use Rattle.theory_history.specs.Played.{Played, fresh, register, take, serve, inc, reset, repeat, reached, ready}
use Rattle.theory_history.specs.Lemmas.Tidy.{tidy}
use Rattle.theory_history.specs.Lemmas.Tails.{Tail, Less, Flagged, next-tail, buttons, lone}
use Rattle.theory_history.specs.Lemmas.Brings.{Few, brings}
use Rattle.rules.specs.declared.EventForm.{EventForm}
use Rattle.rules.specs.Forms.{read_event}
use Rattle.rules.specs.declared.EventType.TheVariants.{Axis}
use Rattle.rules.specs.State.{next_counter}
use Rattle.rules.specs.Calls.{fresh_hub, new_by, new_of, register_refusal, registered_at, register_by, register_as, form_place, update_form_by, update_by, update_of, counted_at, inc_of, reset_of}
use Rattle.theory_registered.specs.Columns.{accepted, either-taken}
use Rattle.theory_history.specs.Lemmas.Marks.{cleared-before, cleared-behind}
use Rattle.theory_history.specs.Lemmas.Flags.{and_parts, up_at}

-- ---- the flags after a step

step-flags : (h : Hub) (l : NextRecord) → Ready h → (d : Dispatched) → taken_of h l ≡ d
    → (step_hub h l).flags
    ≡ flags_set (marked_of h l.raw).flags d.event.pad (name_of d.event) (filtered_of true (view_of (marked_of h l.raw) d.event) d.event).flags
unfolding step_hub updated_of updated_at filtered_hub pushed_of filtered_in
step-flags h l w d taken =
    ap
    (λ (on : Bool).
    flags_set (marked_of h l.raw).flags (taken_of h l).event.pad (name_of (taken_of h l).event) (filtered_of on (view_of (marked_of h l.raw) (taken_of h l).event) (taken_of h l).event).flags)
    (unfold marked_of in w.filters)
    ∙ ap
    (λ (t : Dispatched).
    flags_set (marked_of h l.raw).flags t.event.pad (name_of t.event) (filtered_of true (view_of (marked_of h l.raw) t.event) t.event).flags)
    taken

-- what the filters see of them
flagged : (h : Hub) (r : RawRecord) → Ready h → Desk h → (e : Event) → Flagged (marked_of h r).flags e (view_of (marked_of h r) e)
unfolding view_of view_at
flagged h r w desk e =
    record { seen = refl; real = λ stands none. lone-partner (ap (λ (k : ℕ). ltb k nowhere) (sym (partner-is h r w desk e)) ∙ stands) none }
  where
    lone-partner : ltb (cond (eqb (partner_of (name_of e)) 0) nowhere (named_of h.names e.pad (partner_of (name_of e)))) nowhere ≡ true → partner_of (name_of e) ≡ 0 → ⊥
    lone-partner stands none = omega (arith, ltb-true nowhere nowhere (ap (λ (m : ℕ). ltb (cond (eqb m 0) nowhere (named_of h.names e.pad m)) nowhere) (sym none) ∙ stands))

front-flags : (h : Hub) → (marked_of h blank_record).flags ≡ h.flags
unfolding marked_of marks_cleared cleared_of
front-flags h = refl

-- ---- the two steps

-- what waits in a hub can still hand out so many events
abbrev pub Still : Hub → ℕ → Type 0
Still h b = Tail h.flags (waiting_list h) b

pub none-still : (h : Hub) → h.waiting ≡ 0 → Still h 0
none-still h none = rw (none-waits h none) (buttons empty)

pub take-few : {h : Hub} {rs : List RawRecord} → Played h rs → (r : RawRecord) → h.waiting ≡ 0 → Few (step_hub h (look_at r)).flags (waiting_list (step_hub h (look_at r)))
take-few {h} p r none =
    let w = ready p in
    let desk = reached-desk (reached p) in
    let at = place_of h.codes r.pad r.code in
    let d = dispatch_by (move_of r.kind) r (get_or h.names at no_name) (element_at h at) (pressed_at h at) h.pressed h.released h.reversed in
    let taken : taken_of h (look_at r) ≡ d = taken_as h r w none (move_of r.kind) refl in
    let queue : waiting_list (step_hub h (look_at r)) ≡ queue_of d (view_of (marked_of h r) d.event) =
    nothing-lost h (look_at r) (reached-sound (reached p)) ∙ (ap (λ (es : List Event). es ++ pushes_in h (look_at r)) (empty-rest h none) ∙ pushes-of h (look_at r) w d taken) in
    subst (λ (q : List Event). Few (step_hub h (look_at r)).flags q) (sym queue)
    (subst (λ (f : List Bool). Few f (queue_of d (view_of (marked_of h r) d.event))) (sym (step-flags h (look_at r) w d taken))
    (brings (marked_of h r).flags r (λ e. view_of (marked_of h r) e) (λ e. flagged h r w desk e) (move_of r.kind) (get_or h.names at no_name) (element_at h at) (pressed_at h at)
    h.pressed h.released h.reversed))

pub serve-less : {h : Hub} {rs : List RawRecord} → Played h rs → 0 < h.waiting → (b : ℕ) → Still h b
    → Less (step_hub h look).flags (waiting_list (step_hub h look)) b
serve-less {h} p some b t =
    let w = ready p in
    let desk = reached-desk (reached p) in
    let front = front_of h in
    let v = view_of (marked_of h blank_record) front in
    let taken = front-taken h some in
    let fit = head_of (subst (All (Fit (sheet_of h))) (popped h some) (tidy p)) in
    let queue : waiting_list (step_hub h look) ≡ rest_of h ++ more_of v front =
    nothing-lost h look (reached-sound (reached p)) ∙ ap (λ (es : List Event). rest_of h ++ es) (pushes-of h look w (single front) taken) in
    let flags : (step_hub h look).flags ≡ flags_set h.flags front.pad (name_of front) (filtered_of true v front).flags =
    step-flags h look w (single front) taken ∙ ap (λ (f : List Bool). flags_set f front.pad (name_of front) (filtered_of true v front).flags) (front-flags h) in
    let seen : Flagged h.flags front v = subst (λ (f : List Bool). Flagged f front v) (front-flags h) (flagged h blank_record w desk front) in
    subst (λ (q : List Event). Less (step_hub h look).flags q b) (sym queue)
    (subst (λ (f : List Bool). Less f (rest_of h ++ more_of v front) b) (sym flags)
    (next-tail (sheet_of h) h.flags front (rest_of h) b (subst (λ (q : List Event). Tail h.flags q b) (popped h some) t) v fit (sees h blank_record w desk front) seen))

-- ---- calls between the steps

counted-tail : (h : Hub) (m b : ℕ) → Still h b → Still (counted_at h m) b
unfolding counted_at waiting_list
counted-tail h m b t = t

form-tail : (number : ℕ) (h : Hub) (f : EventForm) (b : ℕ) → Still h b → Still (update_form_by number h f).hub b
unfolding updated_of updated_at waiting_list
form-tail zero h f b t = t
form-tail (suc number) h f b t = t

-- a registration takes the new pad's flags down, and those alone
flag-place : (flags : List Bool) (pads p n : ℕ) → p < pads → pads < pad_limit → (inside : Bool) → (ltb p pad_limit && ltb (flag_of n) flags_per_pad) ≡ inside
    → get_or (cleared_of flags (flags_per_pad * pads) flags_per_pad) (cond inside (flags_per_pad * p + flag_of n) (flags_per_pad * pad_limit)) false
    ≡ get_or flags (cond inside (flags_per_pad * p + flag_of n) (flags_per_pad * pad_limit)) false
flag-place flags pads p n old few true e =
    let small = ltb-true (flag_of n) flags_per_pad (and_parts (ltb p pad_limit) (ltb (flag_of n) flags_per_pad) e).1 in
    cleared-before flags_per_pad flags (flags_per_pad * pads) (flags_per_pad * p + flag_of n) (omega arith)
flag-place flags pads p n old few false e = cleared-behind flags_per_pad flags (flags_per_pad * pads) (flags_per_pad * pad_limit) (omega arith)

flag_same : (flags : List Bool) (pads p n : ℕ) → p < pads → pads < pad_limit
    → get_or (cleared_of flags (flags_per_pad * pads) flags_per_pad) (flag_place p n) false ≡ get_or flags (flag_place p n) false
unfolding flag_place
flag_same flags pads p n old few = flag-place flags pads p n old few (ltb p pad_limit && ltb (flag_of n) flags_per_pad) refl

grown-tail : (s : Sheet) (flags : List Bool) → s.pads < pad_limit → (q : List Event) (b : ℕ) → All (Fit s) q → Tail flags q b
    → Tail (cleared_of flags (flags_per_pad * s.pads) flags_per_pad) q b
grown-tail s flags few q b fits (buttons all) = buttons all
grown-tail s flags few q b fits (lone {pad} {time} {m} {c} {z}) =
    let old = fit-pad (head_of fits) in
    let after = cleared_of flags (flags_per_pad * s.pads) flags_per_pad in
    let same : up_at after (flag_place pad m) (flag_place pad (partner_of m)) ≡ up_at flags (flag_place pad m) (flag_place pad (partner_of m)) =
    unfold up_at in rw (flag_same flags s.pads pad m old few, flag_same flags s.pads pad (partner_of m) old few) in
    subst (λ (n : ℕ). Tail after (ev pad time (Axis m c z) ∷ []) (suc n)) same lone

register-tail : (number : ℕ) (h : Hub) (archived : Bool) (sheet : List ℕ) (b : ℕ) → register_refusal archived h.pads sheet ≡ number → All (Fit (sheet_of h)) (waiting_list h)
    → Still h b → Still (register_by number h sheet).hub b
unfolding registered_at waiting_list
register-tail zero h archived sheet b ok fits t = grown-tail (sheet_of h) h.flags (accepted h.pads sheet (either-taken archived h.pads sheet ok)).0 (waiting_list h) b fits t
register-tail (suc number) h archived sheet b ok fits t = t

pub register-still : {h : Hub} {rs : List RawRecord} → Played h rs → (archived : Bool) (sheet : List ℕ) (b : ℕ) → Still h b → Still (register_as archived h sheet).hub b
unfolding register_as
register-still {h} w archived sheet b t = register-tail (register_refusal archived h.pads sheet) h archived sheet b refl (tidy w) t

pub inc-still : (h : Hub) (b : ℕ) → Still h b → Still (inc_of h) b
unfolding inc_of
inc-still h b t = counted-tail h (next_counter h.counter) b t

pub reset-still : (h : Hub) (b : ℕ) → Still h b → Still (reset_of h) b
unfolding reset_of
reset-still h b t = counted-tail h 0 b t

pub update-still : (h : Hub) (bytes : List ℕ) (b : ℕ) → Still h b → Still (update_of h bytes).hub b
unfolding update_of
update-still h bytes b t = read-still (read_event bytes)
  where
    read-still : (r : Option EventForm) → Still (update_by r h).hub b
    read-still (Some f) = form-tail (form_refusal f h.pads (form_place h f)) h f b t
    read-still None = t

-- ---- whatever is played

new-still : (number : ℕ) (h : Hub) → number ≡ 0 → h.waiting ≡ 0 → Still (new_by number h).hub 0
new-still zero h ok none = none-still h none
new-still (suc number) h ok none = absurd (omega arith)

pub still : {h : Hub} {rs : List RawRecord} → Played h rs → Few h.flags (waiting_list h)
unfolding new_of
still (fresh pressed released reversed ok) =
    let h = fresh_hub pressed released reversed true true in
    record { bound = 0; tail = new-still (thresholds_refusal pressed released) h ok (unfold fresh_hub in refl); few = omega arith }
still (register archived sheet w) =
    let s = still w in
    record { bound = s.bound; tail = register-still w archived sheet s.bound s.tail; few = s.few }
still (take r none ok w) = take-few w r none
still (serve some w) =
    let s = still w in
    let l = serve-less w some s.bound s.tail in
    let less = l.less in
    let few = s.few in
    record { bound = l.bound; tail = l.tail; few = omega arith }
still (inc {h} w) =
    let s = still w in
    record { bound = s.bound; tail = inc-still h s.bound s.tail; few = s.few }
still (reset {h} w) =
    let s = still w in
    record { bound = s.bound; tail = reset-still h s.bound s.tail; few = s.few }
still (repeat {h} bytes is w) =
    let s = still w in
    record { bound = s.bound; tail = update-still h bytes s.bound s.tail; few = s.few }
