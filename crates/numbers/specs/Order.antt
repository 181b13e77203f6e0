-- The order of binary32 and what `clamp_of` makes of it: of two values that are no NaN one is at or below the other, and a value that is held lies between its ends.
use Rattle.std.specs.Prelude.{◌≡◌, refl, ◌⊎◌, Bool, true, false, ◌&&◌, ◌||◌, cond, ℕ, ◌+◌, ◌*◌, ◌≤◌, ◌<◌, T, ltb, eqb, Float}
use Rattle.std.proofs.Common.{sym, inl, inr, le_refl, eq-or-lt_of_le, arith, lt-ltb, ltb-false, eq-eqb}
use Rattle.std.proofs.Math.Bool.{or-true}
use Rattle.std.proofs.lemmas.Bool.{false≢true}
use Rattle.std.specs.Float.{nan, inf, fin}
use Rattle.std.specs.Float.Ieee.{up, down, below, level, lt, le, eq, is_nan}
use Rattle.std.specs.Float.Ieee.Scale.{finite}
use Rattle.numbers.specs.Clamp.{clamp_of}

-- ---- one of two is at or below the other

less-or-equal : (a b c d : ℕ) → a ≤ b → (a ≡ b → c ≡ d) → ltb a b || (eqb c d && true) ≡ true
less-or-equal a b c d h same = go (eq-or-lt_of_le h)
  where
    go : (a ≡ b) ⊎ (a < b) → ltb a b || (eqb c d && true) ≡ true
    go (inl e) = rw (eq-eqb c d (same e)) (or-true (ltb a b))
    go (inr l) = rw (lt-ltb a b l)

both_zero : (a b : ℕ) → a + b ≡ 0 → level false b true a ≡ true
both_zero a b h =
    let x : b ≡ a = omega arith in
    let y : b ≡ 0 = omega arith in
    rw (eq-eqb b a x, eq-eqb b 0 y)

minus-below : (a b : ℕ) → ltb 0 (b + a) || level true b false a ≡ true
minus-below a b = go (eq-or-lt_of_le (some (b + a)))
  where
    some : (n : ℕ) → 0 ≤ n
    some n = omega arith

    go : (0 ≡ b + a) ⊎ (0 < b + a) → ltb 0 (b + a) || level true b false a ≡ true
    go (inl e) =
        let x : b ≡ a = omega arith in
        let y : b ≡ 0 = omega arith in
        rw (eq-eqb b a x, eq-eqb b 0 y) (or-true (ltb 0 (b + a)))
    go (inr l) = rw (lt-ltb 0 (b + a) l)

-- the tests of `le` on two sizes
either : (s t : Bool) (a b : ℕ) → below s a t b ≡ false → below t b s a || level t b s a ≡ true
either false false a b h = less-or-equal b a b a (ltb-false a b h) (λ (e : b ≡ a). e)
either false true a b h = minus-below a b
either true false a b h = let l = ltb-false 0 (a + b) h in both_zero a b (omega arith)
either true true a b h = less-or-equal a b b a (ltb-false b a h) (λ (e : a ≡ b). sym e)

level-itself : (s : Bool) (a : ℕ) → below s a s a || level s a s a ≡ true
level-itself false a = less-or-equal a a a a (le_refl a) (λ (e : a ≡ a). e)
level-itself true a = less-or-equal a a a a (le_refl a) (λ (e : a ≡ a). e)

pub not-below : (x y : Float) → is_nan x ≡ false → is_nan y ≡ false → lt x y ≡ false → le y x ≡ true
unfolding is_nan lt le eq
not-below nan y p q h = cc
not-below (inf s) nan p q h = cc
not-below (inf true) (inf true) p q h = refl
not-below (inf true) (inf false) p q h = cc
not-below (inf false) (inf true) p q h = refl
not-below (inf false) (inf false) p q h = refl
not-below (inf true) (fin t n d) p q h = cc
not-below (inf false) (fin t n d) p q h = refl
not-below (fin s m e) nan p q h = cc
not-below (fin s m e) (inf true) p q h = refl
not-below (fin s m e) (inf false) p q h = cc
not-below (fin s m e) (fin t n d) p q h = either s t (m * up e * down d) (n * up d * down e) h

pub below-is : (x y : Float) → lt x y ≡ true → le x y ≡ true
unfolding le
below-is x y h = rw h

-- an end of a range is no NaN
pub no-nan-low : (x y : Float) → le x y ≡ true → is_nan x ≡ false
unfolding le lt eq is_nan
no-nan-low nan y h = sym h
no-nan-low (inf s) y h = refl
no-nan-low (fin s m e) y h = refl

pub no-nan-high : (x y : Float) → le x y ≡ true → is_nan y ≡ false
unfolding le lt eq is_nan
no-nan-high nan nan h = sym h
no-nan-high (inf s) nan h = sym h
no-nan-high (fin s m e) nan h = sym h
no-nan-high x (inf s) h = refl
no-nan-high x (fin s m e) h = refl

pub le_itself : (x : Float) → is_nan x ≡ false → le x x ≡ true
unfolding is_nan le eq
le_itself nan h = cc
le_itself (inf true) h = refl
le_itself (inf false) h = refl
le_itself (fin s m e) h = level-itself s (m * up e * down e)

-- lo..hi
pub record Between (lo hi x : Float) : Type 0 where
  pub low : le lo x ≡ true
  pub high : le x hi ≡ true

-- ---- held

pub held : (x lo hi : Float) → is_nan x ≡ false → le lo hi ≡ true → Between lo hi (clamp_of x lo hi)
unfolding clamp_of
held x lo hi h o = go (lt x lo) (lt hi x) refl refl
  where
    go : (a b : Bool) → lt x lo ≡ a → lt hi x ≡ b → Between lo hi (cond a lo (cond b hi x))
    go true b p q = record { low = le_itself lo (no-nan-low lo hi o); high = o }
    go false true p q = record { low = o; high = le_itself hi (no-nan-high lo hi o) }
    go false false p q = record { low = not-below x lo h (no-nan-low lo hi o) p; high = not-below hi x (no-nan-high lo hi o) h q }

no_lower : (lo : Float) → T (finite lo) → le lo (inf true) ≡ true → ⊥
unfolding le lt eq
no_lower nan p h = p
no_lower (inf s) p h = p
no_lower (fin s m e) p h = false≢true h

no-higher : (hi : Float) → T (finite hi) → le (inf false) hi ≡ true → ⊥
unfolding le lt eq
no-higher nan p h = p
no-higher (inf s) p h = p
no-higher (fin s m e) p h = false≢true h

nan-bounds : (lo : Float) → le lo nan ≡ true → ⊥
unfolding le lt eq
nan-bounds nan h = false≢true h
nan-bounds (inf s) h = false≢true h
nan-bounds (fin s m e) h = false≢true h

-- what lies between two finite values is finite
pub between-finite : (lo hi x : Float) → T (finite lo) → T (finite hi) → Between lo hi x → T (finite x)
between-finite lo hi nan p q b = nan-bounds lo b.low
between-finite lo hi (inf true) p q b = no_lower lo p b.low
between-finite lo hi (inf false) p q b = no-higher hi q b.high
between-finite lo hi (fin s m e) p q b = tt
