-- W-213: "Keep a summary beside the button records: one bit per record, with the count by pad. It must equal the fresh count over the records": what that says of
-- a hub, and how one pad's summary moves: where nothing that it counts changes, where nothing reads pressed any more, and where one place begins or ceases to.
use Rattle.std.specs.Prelude.{ℕ, ◌+◌, ◌*◌, ◌^◌, ◌<◌, Bool, true, false, cond, ◌&&◌, ◌≡◌, refl, eqb, get_or}
use Rattle.std.proofs.Common.{sym, ap, ap₂, ◌∙◌, arith, eqb-true}
use Rattle.std.proofs.lemmas.Bool.{eqb-false}
use Rattle.rules.specs.declared.Hub.{Hub}
use Rattle.rules.specs.Names.{pad_limit, places_per_pad}
use Rattle.rules.specs.Sheets.{element_axis}
use Rattle.rules.specs.Hub.{kind_at, pressed_at}
use Rattle.rules.specs.Down.{has_bit, put_bit, count_after, changes}
use Rattle.theory_down.specs.Bits.{put_same, put_other, put_small, zero_bits}
use Rattle.theory_down.specs.Counts.{how_many, count-alike, count_none, count-follows}

-- ---- the fresh counts

-- whether place k of pad p reads pressed; whether an axis element stands there
abbrev pub reads_on : Hub → ℕ → ℕ → Bool
reads_on h p k = pressed_at h (places_per_pad * p + k)

abbrev pub axis_on : Hub → ℕ → ℕ → Bool
axis_on h p k = eqb (kind_at h (places_per_pad * p + k)) element_axis

-- how many of a pad's places read pressed, and how many of its axis elements
abbrev pub pressed_on : Hub → ℕ → ℕ
pressed_on h p = how_many (λ k. reads_on h p k) places_per_pad

abbrev pub pressed_axes_on : Hub → ℕ → ℕ
pressed_axes_on h p = how_many (λ k. axis_on h p k && reads_on h p k) places_per_pad

-- ---- what is claimed: the summary of each pad equals the fresh counts

pub record Summed (h : Hub) : Type 0 where
  pub bit : (p k : ℕ) → p < pad_limit → k < places_per_pad → has_bit (get_or h.down p 0) k ≡ pressed_at h (places_per_pad * p + k)
  pub small : (p : ℕ) → p < pad_limit → get_or h.down p 0 < 2 ^ places_per_pad
  pub count : (p : ℕ) → p < pad_limit → get_or h.held p 0 ≡ pressed_on h p
  pub axes : (p : ℕ) → p < pad_limit → get_or h.heldaxes p 0 ≡ pressed_axes_on h p

-- ---- the same of one pad, over plain numbers: its bits and its two counts, beside what its places read and which of them are axis elements'

pub record Sums (bits count axes : ℕ) (reads axis : ℕ → Bool) : Type 0 where
  pub bit : (k : ℕ) → k < places_per_pad → has_bit bits k ≡ reads k
  pub small : bits < 2 ^ places_per_pad
  pub counted : count ≡ how_many reads places_per_pad
  pub counted-axes : axes ≡ how_many (λ k. axis k && reads k) places_per_pad

abbrev pub OnPad : Hub → ℕ → Type 0
OnPad h p = Sums (get_or h.down p 0) (get_or h.held p 0) (get_or h.heldaxes p 0) (λ k. reads_on h p k) (λ k. axis_on h p k)

pub by-pads : (h : Hub) → ((p : ℕ) → p < pad_limit → OnPad h p) → Summed h
by-pads h w =
    record {
      bit = λ p k stands short. (w p stands).bit k short;
      small = λ p stands. (w p stands).small;
      count = λ p stands. (w p stands).counted;
      axes = λ p stands. (w p stands).counted-axes;
    }

pub on-pad : (h : Hub) → Summed h → (p : ℕ) → p < pad_limit → OnPad h p
on-pad h w p stands =
    record { bit = λ k short. w.bit p k stands short; small = w.small p stands; counted = w.count p stands; counted-axes = w.axes p stands }

-- numbers that are the same, places that read the same
module _ {bits bits' count count' axes axes' : ℕ} {reads reads' axis axis' : ℕ → Bool} where
  pub sums-alike : bits' ≡ bits → count' ≡ count → axes' ≡ axes → ((k : ℕ) → k < places_per_pad → reads' k ≡ reads k)
      → ((k : ℕ) → k < places_per_pad → axis' k ≡ axis k)
      → Sums bits count axes reads axis → Sums bits' count' axes' reads' axis'
  sums-alike same_bits same_count same-axes read_alike kind-alike w =
      record {
        bit = λ k short. ap (λ (b : ℕ). has_bit b k) same_bits ∙ (w.bit k short ∙ sym (read_alike k short));
        small = rw same_bits w.small;
        counted = same_count ∙ (w.counted ∙ sym (count-alike reads' reads places_per_pad read_alike));
        counted-axes =
            same-axes
            ∙ (w.counted-axes
            ∙ sym (count-alike (λ k. axis' k && reads' k) (λ k. axis k && reads k) places_per_pad
            (λ k short. ap₂ (λ (a r : Bool). a && r) (kind-alike k short) (read_alike k short))));
      }

and-false : (b : Bool) → (b && false) ≡ false
and-false true = refl
and-false false = refl

-- nothing reads pressed
pub sums_none : (reads axis : ℕ → Bool) → ((k : ℕ) → k < places_per_pad → reads k ≡ false) → Sums 0 0 0 reads axis
sums_none reads axis none =
    record {
      bit = λ k short. zero_bits k ∙ sym (none k short);
      small = omega arith;
      counted = sym (count_none reads places_per_pad none);
      counted-axes = sym (count_none (λ k. axis k && reads k) places_per_pad (λ k short. ap (λ (r : Bool). axis k && r) (none k short) ∙ and-false (axis k)));
    }

-- one place is read anew: it read as `was` says, and reads as `is` says
module _ (before now axis : ℕ → Bool) (at : ℕ) (inside : at < places_per_pad) (others : (k : ℕ) → (k ≡ at → ⊥) → now k ≡ before k) (was is a : Bool)
    (read : before at ≡ was) (reads : now at ≡ is) (kind : axis at ≡ a) (bits count axes : ℕ) (w : Sums bits count axes before axis) where
  here : (x y : Bool) → was ≡ x → is ≡ y → has_bit (cond (changes x y) (put_bit bits at y) bits) at ≡ now at
  here true true ex ey = w.bit at inside ∙ (read ∙ (ex ∙ sym (reads ∙ ey)))
  here true false ex ey = put_same bits at false ∙ sym (reads ∙ ey)
  here false true ex ey = put_same bits at true ∙ sym (reads ∙ ey)
  here false false ex ey = w.bit at inside ∙ (read ∙ (ex ∙ sym (reads ∙ ey)))

  elsewhere : (c : Bool) (k : ℕ) → (k ≡ at → ⊥) → has_bit (cond c (put_bit bits at is) bits) k ≡ has_bit bits k
  elsewhere true k other = put_other bits at k is other
  elsewhere false k other = refl

  bit-by : (k : ℕ) (own : Bool) → eqb k at ≡ own → k < places_per_pad → has_bit (cond (changes was is) (put_bit bits at is) bits) k ≡ now k
  bit-by k true e short = rw (eqb-true k at e) (here was is refl refl)
  bit-by k false e short =
      let other = eqb-false k at e in
      elsewhere (changes was is) k other ∙ (w.bit k short ∙ sym (others k other))

  small_by : (c : Bool) → cond c (put_bit bits at is) bits < 2 ^ places_per_pad
  small_by true = put_small bits at places_per_pad is inside w.small
  small_by false = w.small

  pub sums-put :
      Sums (cond (changes was is) (put_bit bits at is) bits) (cond (changes was is) (count_after count is) count)
      (cond (changes (a && was) (a && is)) (count_after axes (a && is)) axes) now axis
  sums-put =
      record {
        bit = λ k short. bit-by k (eqb k at) refl short;
        small = small_by (changes was is);
        counted = rw w.counted (count-follows before now at others inside was is read reads);
        counted-axes =
            rw w.counted-axes
            (count-follows (λ k. axis k && before k) (λ k. axis k && now k) at (λ k other. ap (λ (r : Bool). axis k && r) (others k other)) inside (a && was) (a && is)
            (ap₂ (λ (x y : Bool). x && y) kind read) (ap₂ (λ (x y : Bool). x && y) kind reads));
      }
