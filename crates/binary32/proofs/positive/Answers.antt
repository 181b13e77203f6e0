-- `positive` meets its contract: the digits and the exponent that the code packs into bits are `digits` and `places` of the definition. The facts are stated
-- over plain numbers: the bits b are apart m and z, e is what `even` gives, and q the rounded root.
use Rattle.std.specs.Prelude.{◌≡◌, false, ℕ, ◌+◌, ◌*◌, ◌/◌, ◌%◌, ◌^◌, ◌<◌, ◌≤◌}
use Rattle.std.proofs.Common.{sym, ap, ◌∙◌, subst, arith, Fits}
use Rattle.std.specs.Int.{w32}
use Rattle.std.specs.Float.{binary32}
use Rattle.std.specs.Float.Ieee.{odd, of_bits}
use Rattle.numbers.specs.Root.{near, digits, root_units}
use Rattle.binary32.specs.Units.{Apart, units_at}
use Rattle.binary32.specs.Leading.{Wide, Normal, even-wide, wide-lt, near-normal, places_is, digits-is}
use Rattle.binary32.specs.Patterns.{packed, packed-number}
use Rattle.binary32.proofs.positive.Goals as goal

module _ (n m z e : ℕ) (a : Apart n m z) (moved : e ≡ m * 2 ^ (23 + z % 2)) where
  wide : Wide e
  wide = subst Wide (sym moved) (even-wide m z a.low a.high)

  some : 0 < e
  some = let h = wide.least in omega arith

  few : z / 2 + 51 ≤ 200
  few = let h = a.few in omega arith

  module _ (q : ℕ) (rounded : q ≡ near e) where
    normal : Normal q
    normal = subst Normal (sym rounded) (near-normal e wide)

    digits-fit : Fits w32 q
    digits-fit = let h = normal.high in record { fits = omega arith }

    bits-fit : Fits w32 ((z / 2 + 51) * 8388608 + q)
    bits-fit = let h = normal.high in let l = few in record { fits = omega arith }

    root : of_bits binary32 ((z / 2 + 51) * 8388608 + q) ≡ root_units n
    unfolding root_units
    root =
        let k = z / 2 + 51 in
        packed k q few normal
        ∙ ap (λ (d : ℕ). odd 24 false d k 149) (rounded ∙ ap near moved ∙ sym (digits-is n m z a))
        ∙ ap (λ (y : ℕ). odd 24 false (digits n) y 149) (sym (places_is n m z a))

pub near_root-q-requires : goal.near_root-q-requires
near_root-q-requires c =
    let p = c.apart-p in
    let w = wide _ p.result.m p.result.z c.even.result p.ensures c.even.ensures in
    (some _ p.result.m p.result.z c.even.result p.ensures c.even.ensures, wide-lt c.even.result w)

pub overflow_cast-result : goal.overflow_cast-result
overflow_cast-result c =
    digits-fit _ c.apart-p.result.m c.apart-p.result.z c.even.result c.apart-p.ensures c.even.ensures c.near_root-q.result c.near_root-q.ensures

pub overflow_add-result-2 : goal.overflow_add-result-2
overflow_add-result-2 c =
    bits-fit _ c.apart-p.result.m c.apart-p.result.z c.even.result c.apart-p.ensures c.even.ensures c.near_root-q.result c.near_root-q.ensures

pub float_from_bits-result : goal.float_from_bits-result
float_from_bits-result c =
    let p = c.apart-p in
    packed-number (p.result.z / 2 + 51) c.near_root-q.result
    (few _ p.result.m p.result.z c.even.result p.ensures c.even.ensures)
    (normal _ p.result.m p.result.z c.even.result p.ensures c.even.ensures c.near_root-q.result c.near_root-q.ensures)

pub returns : goal.returns
returns c =
    let p = c.apart-p in
    root (units_at c.args.bits) p.result.m p.result.z c.even.result p.ensures c.even.ensures c.near_root-q.result c.near_root-q.ensures
