-- How many events what waits can still hand out: one for each event of a button, and for a lone axis event one more for each deadzone flag that is up of its
-- axis and the partner. A step from the queue makes it less.
use Prim.Native.Nat.{ℕ, suc, ◌+◌, ◌≤◌}
use Rattle.std.specs.Prelude.{Bool, ◌&&◌, List, [], ◌∷◌, ◌++◌, ◌⊎◌, ◌≡◌, refl, Float, length}
use Rattle.std.proofs.Math.Bool.{true, false}
use Rattle.std.proofs.Common.{append-nil, inl, inr}
use Rattle.std.proofs.Math.Path.{ap, subst}
use Rattle.std.proofs.Math.ListN.{get_or}
use native.Mathlib.Omega.{arith}
use Rattle.rules.specs.declared.Event.{Event}
use Rattle.rules.specs.declared.EventType.TheVariants.{Pressed, Released, Changed, Axis}
use Rattle.rules.specs.declared.Flags.{Flags}
use Rattle.rules.specs.declared.View.{View}
use Rattle.rules.specs.Names.{is_hat, partner_of}
use Rattle.rules.specs.Events.{name_of}
use Rattle.rules.specs.Hub.{flag_place}
use Rattle.rules.specs.Step.{flags_set}
use Rattle.rules.specs.Filters.{filtered_of}
use Rattle.theory_history.specs.Lemmas.Turns.{ev, more_of, plain_more, changed-more}
use Rattle.theory_history.specs.Lemmas.Waits.{Sheet, takes, All, empty, head_of, tail_of, Fit, stick}
use Rattle.theory_history.specs.Lemmas.Exact.{Sees}
use Rattle.theory_history.specs.Lemmas.Partner.{partner-back}
use Rattle.theory_history.specs.Lemmas.Flags.{Costs, Sweeps, nothing, clears, stick-sweeps, up_at, fewer}

-- events of buttons queue nothing
pub data Button : Event → Type 0 where
  pressed : {pad time n c : ℕ} → Button (ev pad time (Pressed n c))
  released : {pad time n c : ℕ} → Button (ev pad time (Released n c))
  changed : {pad time n c : ℕ} {z : Float} → Button (ev pad time (Changed n c z))

pub button-more : (v : View) {e : Event} → Button e → more_of v e ≡ []
button-more v (pressed {pad} {time} {n} {c}) = plain_more v pad time (Pressed n c) refl
button-more v (released {pad} {time} {n} {c}) = plain_more v pad time (Released n c) refl
button-more v (changed {pad} {time} {n} {c} {z}) = changed-more v pad time n c z

-- what waits, and how many events it can still hand out
pub data Tail (flags : List Bool) : List Event → ℕ → Type 0 where
  buttons : {q : List Event} → All Button q → Tail flags q (length q)
  lone : {pad time m c : ℕ} {z : Float} → Tail flags (ev pad time (Axis m c z) ∷ []) (suc (up_at flags (flag_place pad m) (flag_place pad (partner_of m))))

-- what an axis event that is filtered leaves: nothing, or a clearing event that one flag fewer stands behind
module _ (flags : List Bool) (pad time m c : ℕ) (z : Float) (v : View)
    (seen : v.flags ≡ record { own = get_or flags (flag_place pad m) false; partner = get_or flags (flag_place pad (partner_of m)) false })
    (real : v.partner.stands ≡ true → partner_of m ≡ 0 → ⊥) where
  abbrev after : List Bool
  after = flags_set flags pad m (filtered_of true v (ev pad time (Axis m c z))).flags

  pub record Leaves (q : List Event) : Type 0 where
    pub bound : ℕ
    pub tail : Tail after q bound
    pub small : bound ≤ up_at flags (flag_place pad m) (flag_place pad (partner_of m))

  back : v.partner.stands ≡ true → (partner_of m ≡ 0) ⊎ (partner_of (partner_of m) ≡ m) → partner_of (partner_of m) ≡ m
  back stands (inl none) = absurd (real stands none)
  back stands (inr same) = same

  leaves_by : {q : List Event} {f : Flags} → f ≡ (filtered_of true v (ev pad time (Axis m c z))).flags → Sweeps v pad time m c z q f → Leaves q
  unfolding flags_set
  leaves_by is nothing = record { bound = 0; tail = buttons empty; small = omega arith }
  leaves_by {q} {f} is (clears stands costs) =
      let i = flag_place pad m in
      let j = flag_place pad (partner_of m) in
      let g = (filtered_of true v (ev pad time (Axis m c z))).flags in
      let paid : Costs (record { own = get_or flags i false; partner = get_or flags j false }) g = subst (λ (u : Flags). Costs u g) seen (subst (λ (u : Flags). Costs v.flags u) is costs) in
      let less = fewer flags i j g paid in
      let places : up_at after j (flag_place pad (partner_of (partner_of m))) ≡ up_at after j i = ap (λ (n : ℕ). up_at after j (flag_place pad n)) (back stands (partner-back m)) in
      record { bound = suc (up_at after j (flag_place pad (partner_of (partner_of m)))); tail = lone; small = omega arith }

  pub leaves : (v.converts && is_hat m) ≡ false → Leaves (more_of v (ev pad time (Axis m c z)))
  leaves free = leaves_by refl (stick-sweeps v pad time m c z free)

-- ---- a step from the queue

pub record Less (after : List Bool) (q : List Event) (b : ℕ) : Type 0 where
  pub bound : ℕ
  pub tail : Tail after q bound
  pub less : bound + 1 ≤ b

-- what the filters see of the flags, and that a partner that stands is one
pub record Flagged (flags : List Bool) (e : Event) (v : View) : Type 0 where
  pub seen : v.flags ≡ record { own = get_or flags (flag_place e.pad (name_of e)) false; partner = get_or flags (flag_place e.pad (partner_of (name_of e))) false }
  pub real : v.partner.stands ≡ true → partner_of (name_of e) ≡ 0 → ⊥

stick-free : (s : Sheet) (pad time m c : ℕ) (z : Float) (v : View) → Sees s (ev pad time (Axis m c z)) v → takes s pad m ≡ false → (v.converts && is_hat m) ≡ false
unfolding takes
stick-free s pad time m c z v sees free = rw sees.converts free

lone-next : (s : Sheet) (flags : List Bool) (pad time m c : ℕ) (z : Float) (v : View) → Fit s (ev pad time (Axis m c z)) → Sees s (ev pad time (Axis m c z)) v
    → Flagged flags (ev pad time (Axis m c z)) v
    → Less (flags_set flags pad m (filtered_of true v (ev pad time (Axis m c z))).flags) (more_of v (ev pad time (Axis m c z))) (suc (up_at flags (flag_place pad m) (flag_place pad (partner_of m))))
unfolding name_of
lone-next s flags pad time m c z v (stick i axial free) sees f =
    let l = leaves flags pad time m c z v f.seen f.real (stick-free s pad time m c z v sees free) in
    let few = l.small in
    record { bound = l.bound; tail = l.tail; less = omega arith }

pub next-tail : (s : Sheet) (flags : List Bool) (e : Event) (rest : List Event) (b : ℕ) → Tail flags (e ∷ rest) b → (v : View) → Fit s e → Sees s e v → Flagged flags e v
    → Less (flags_set flags e.pad (name_of e) (filtered_of true v e).flags) (rest ++ more_of v e) b
unfolding name_of
next-tail s flags e rest b (buttons all) v fit sees f =
    let none = button-more v (head_of all) in
    rw (none, append-nil rest) (record { bound = length rest; tail = buttons (tail_of all); less = omega arith })
next-tail s flags e rest b (lone {pad} {time} {m} {c} {z}) v fit sees f = lone-next s flags pad time m c z v fit sees (unfold name_of in f)
