-- What a reader's tests say of a record and of an event, over plain numbers: each test that fails refuses, and where all hold the fields read are
-- the form's.
use Rattle.std.specs.Prelude.{◌≡◌, true, false, List, ℕ, ◌+◌, ◌-◌, ◌≤◌, ◌<◌, length, get_or, ℤ, None, Some}
use Rattle.std.proofs.Common.{le-leb, eq-eqb, ne_eqb}
use Rattle.std.proofs.lemmas.Bool.{lt-leb}
use Rattle.rules.specs.Forms.{field_of, signed_of, opens, record_kind_fits, record_fits, record_fields, read_record, event_kind_fits, event_fits, event_fields, read_event}

module _ (s : List ℕ) (at : ℕ) where
  pub record-short : length s - at < 21 → None ≡ read_record s at
  unfolding read_record record_fits
  record-short h = rw (lt-leb 21 (length s - at) h)

  module _ (whole : 21 ≤ length s - at) where
    pub record-shut : opens s at 21 ≡ false → None ≡ read_record s at
    unfolding read_record record_fits
    record-shut h = rw (le-leb 21 (length s - at) whole, h)

    module _
        (opened : opens s at 21 ≡ true)
        (code bits : ℕ)
        (is_code : code ≡ field_of s (at + 5) 4)
        (is-bits : bits ≡ field_of s (at + 9) 4)
      where
        pub record-unfit : record_kind_fits (get_or s (at + 3) 0) code bits ≡ false → None ≡ read_record s at
        unfolding read_record record_fits
        record-unfit h = rw (le-leb 21 (length s - at) whole, opened, ← is_code, ← is-bits, h)

        pub record-good : (value : ℤ) (time : ℕ) → record_kind_fits (get_or s (at + 3) 0) code bits ≡ true → value ≡ signed_of bits
            → time ≡ field_of s (at + 13) 8
            → Some (record { kind = get_or s (at + 3) 0; pad = get_or s (at + 4) 0; code = code; value = value; time = time }) ≡ read_record s at
        unfolding read_record record_fits record_fields
        record-good value time h v t = rw (le-leb 21 (length s - at) whole, opened, ← is_code, ← is-bits, h, v, t)

module _ (s : List ℕ) where
  pub event-long : (length s ≡ 22 → ⊥) → None ≡ read_event s
  unfolding read_event event_fits
  event-long h = rw (ne_eqb (length s) 22 h)

  module _ (whole : length s ≡ 22) where
    pub event-shut : opens s 0 22 ≡ false → None ≡ read_event s
    unfolding read_event event_fits
    event-shut h = rw (eq-eqb (length s) 22 whole, h)

    module _ (opened : opens s 0 22 ≡ true) (code bits : ℕ) (is_code : code ≡ field_of s 6 4) (is-bits : bits ≡ field_of s 10 4) where
      pub event-unfit : event_kind_fits (get_or s 3 0) (get_or s 5 0) code bits ≡ false → None ≡ read_event s
      unfolding read_event event_fits
      event-unfit h = rw (eq-eqb (length s) 22 whole, opened, ← is_code, ← is-bits, h)

      pub event-good : (time : ℕ) → event_kind_fits (get_or s 3 0) (get_or s 5 0) code bits ≡ true → time ≡ field_of s 14 8
          → Some (record { kind = get_or s 3 0; pad = get_or s 4 0; name = get_or s 5 0; code = code; bits = bits; time = time }) ≡ read_event s
      unfolding read_event event_fits event_fields
      event-good time h t = rw (eq-eqb (length s) 22 whole, opened, ← is_code, ← is-bits, h, t)
