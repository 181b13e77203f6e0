-- The bytes of a swapped number: swapping turns a number's bytes round, so that the swapped number's bytes, the lowest first, are the number's, the
-- highest first. One law, over the width; a number of four bytes is swapped in eight, and its own are then the upper four.
use Rattle.std.specs.Prelude.{◌≡◌, refl, List, [], ◌∷◌, ◌++◌, ℕ, zero, suc, ◌+◌, ◌*◌, ◌/◌, ◌%◌, ◌^◌, ◌<◌, drop}
use Rattle.std.proofs.Common.{sym, ◌∙◌, ap, mul_comm, div-one, mod-lt, arith, lit<}
use Rattle.std.proofs.Math.Nat.{div-div-eq-div-mul}
use Rattle.rules.specs.declared.EventForm.{EventForm}
use Rattle.rules.specs.Forms.{bytes_of, form_bytes}

-- the lowest w bytes of a number, turned round
unfoldable pub swapped_of : ℕ → ℕ → ℕ
swapped_of zero x = 0
swapped_of (suc w) x = swapped_of w x * 256 + x / 256 ^ w % 256

-- the w bytes of a number from the one that counts `unit` on, the lowest first
unfoldable lowest_first : ℕ → ℕ → ℕ → List ℕ
lowest_first zero unit y = []
lowest_first (suc w) unit y = y / unit % 256 ∷ lowest_first w (unit * 256) y

-- above its lowest byte a number has the bytes of its 256th part
above : (w unit y b : ℕ) → b < 256 → lowest_first w (unit * 256) (y * 256 + b) ≡ lowest_first w unit y
unfolding lowest_first
above zero unit y b h = refl
above (suc w) unit y b h =
    let part : (y * 256 + b) / 256 ≡ y = omega arith in
    let byte : (y * 256 + b) / (unit * 256) ≡ y / unit =
    ap (λ (k : ℕ). (y * 256 + b) / k) (mul_comm unit 256) ∙ sym (div-div-eq-div-mul (y * 256 + b) 256 unit) ∙ ap (λ (k : ℕ). k / unit) part in
    rw (byte, above w (unit * 256) y b h)

-- the law
bytes-swapped : (w x : ℕ) → lowest_first w 1 (swapped_of w x) ≡ bytes_of w x
unfolding lowest_first swapped_of bytes_of
bytes-swapped zero x = refl
bytes-swapped (suc w) x =
    let b = x / 256 ^ w % 256 in
    let small : b < 256 = mod-lt (x / 256 ^ w) (lit< tt) in
    let lowest : (swapped_of w x * 256 + b) / 1 % 256 ≡ b = rw div-one (omega arith) in
    rw (lowest, above w 1 (swapped_of w x) b small, bytes-swapped w x)

-- ---- an event's bytes, as the code has them: its numbers swapped

abbrev pub upper_four : ℕ → List ℕ
upper_four y = y / 0x100000000 % 256 ∷ y / 0x10000000000 % 256 ∷ y / 0x1000000000000 % 256 ∷ y / 0x100000000000000 % 256 ∷ []

abbrev pub all_eight : ℕ → List ℕ
all_eight y = y % 256 ∷ y / 0x100 % 256 ∷ y / 0x10000 % 256 ∷ y / 0x1000000 % 256 ∷ upper_four y

abbrev pub laid_out : ℕ → ℕ → ℕ → ℕ → ℕ → ℕ → List ℕ
laid_out kind pad name code bits time = 0 ∷ 20 ∷ 1 ∷ kind ∷ pad ∷ name ∷ upper_four code ++ (upper_four bits ++ all_eight time)

upper-four : (x : ℕ) → upper_four (swapped_of 8 x) ≡ bytes_of 4 x
unfolding lowest_first bytes_of
upper-four x = ap (drop 4) (bytes-swapped 8 x)

all-eight : (x : ℕ) → all_eight (swapped_of 8 x) ≡ bytes_of 8 x
unfolding lowest_first
all-eight x = rw div-one at (bytes-swapped 8 x)

pub laid_out-is : (f : EventForm)
    → laid_out f.kind f.pad f.name (swapped_of 8 f.code) (swapped_of 8 f.bits) (swapped_of 8 f.time) ≡ form_bytes f
unfolding form_bytes bytes_of
laid_out-is f =
    ap (λ (l : List ℕ). 0 ∷ 20 ∷ 1 ∷ f.kind ∷ f.pad ∷ f.name ∷ l)
    (cc (upper-four f.code, upper-four f.bits, all-eight f.time))
