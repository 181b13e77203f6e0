-- `register` on a hub that is lent: the call by its refusals in their order, and the law book's registered hub out of what its parts leave.
use Rattle.std.specs.Prelude.{ℕ, zero, suc, ◌*◌, ◌≤◌, ◌<◌, ◌≡◌, Bool, true, false, List, map, ltb, Float, Err, Ok}
use Rattle.std.proofs.Math.Path.{refl}
use Rattle.std.proofs.Common.{arith, le-ltb, lt-ltb, ltb-true}
use Rattle.rules.specs.declared.Hub.{Hub}
use Rattle.rules.specs.declared.Row.{Row}
use Rattle.rules.specs.declared.Element.{Element}
use Rattle.rules.specs.declared.ButtonData.{ButtonData}
use Rattle.rules.specs.declared.AxisData.{AxisData}
use Rattle.rules.specs.declared.Slot.{Slot}
use Rattle.rules.specs.declared.Registered.{Registered}
use Rattle.rules.specs.Names.{pad_limit, places_per_pad}
use Rattle.rules.specs.Sheets.{sheet_refusal, hats_of, count_of}
use Rattle.rules.specs.Places.{converts_of, cleared_of, rows_of}
use Rattle.rules.specs.Calls.{laid, row_code, row_kind, row_name, row_element, registered_at, register_refusal, register_by, register_as}
use Rattle.columns.specs.Columns.{elements_of, buttons_of, axes_of, slots_of}
use Rattle.layout.specs.Laid.{LaidOut}
use Rattle.hub.specs.declared.Head.{Head}
use Rattle.hub.specs.Lent.{Listed, listed, columns, hub_from, hub_of, registered}
use Rattle.desk.specs.Heads.{registered_head}
use Rattle.rules.specs.declared.Refusal.{Refusal}
use Rattle.rules.specs.Refusals.{numbered, judged as answer_of, first, unless_fits}
use Rattle.refusals.specs.Judged.{served as no-refusal, stopped}

-- ---- by the refusal's number

refused :
    (number : ℕ) (h : Hub) (s : List ℕ) →
    0 < number →
    ◌≡◌ {A = Registered} (record { hub = h; answer = Err (numbered number) }) (register_by number h s)
refused zero h s some = absurd (omega arith)
refused (suc number) h s some = refl

served :
    (number : ℕ) (h : Hub) (s : List ℕ) →
    number ≤ 0 →
    ◌≡◌ {A = Registered}
    (record { hub = registered_at h h.pads (hats_of s) (count_of s) (rows_of s (count_of s)); answer = Ok h.pads })
    (register_by number h s)
served zero h s none = refl
served (suc number) h s none = absurd (omega arith)

-- ---- the call, on any hub, by its refusals in their order

module _ (archived : Bool) (h : Hub) (s : List ℕ) where
  pub register-full : pad_limit ≤ h.pads → ◌≡◌ {A = Registered} (record { hub = h; answer = Err (numbered 2) }) (register_as archived h s)
  unfolding register_as register_refusal
  register-full full = rw (le-ltb h.pads pad_limit full)

  module _ {number : ℕ} (room : h.pads < pad_limit) (e : number ≡ sheet_refusal archived s) where
    judged : register_as archived h s ≡ register_by number h s
    unfolding register_as register_refusal
    judged = rw (lt-ltb h.pads pad_limit room, e)

-- ---- the call, on any hub, by how it is judged

module _ (archived : Bool) (h : Hub) (s : List ℕ) where
  pub register-refused : {refusal : Refusal} → Err refusal ≡ answer_of (register_refusal archived h.pads s) → ◌≡◌ {A = Registered} (record { hub = h; answer = Err refusal }) (register_as archived h s)
  unfolding register_as
  register-refused e =
      stopped (λ (n : ℕ). register_by n h s) (λ (r : Refusal). record { hub = h; answer = Err r }) (λ (n : ℕ). refl) (register_refusal archived h.pads s) e

  register-served :
      {g : Hub} →
      Ok tt ≡ answer_of (register_refusal archived h.pads s) →
      g ≡ registered_at h h.pads (hats_of s) (count_of s) (rows_of s (count_of s)) →
      ◌≡◌ {A = Registered} (record { hub = g; answer = Ok h.pads }) (register_as archived h s)
  unfolding register_as
  register-served e is = rw (is, no-refusal (register_refusal archived h.pads s) e)

-- what is served has a place, and a good sheet
both-zero : (room : Bool) (n : ℕ) → first (unless_fits room 2) n ≡ 0 → (room ≡ true) × (n ≡ 0)
both-zero true n e = (refl, e)
both-zero false n e = absurd (omega arith)

pub room-and-taken :
    (archived : Bool) (pads : ℕ) (s : List ℕ) →
    Ok tt ≡ answer_of (register_refusal archived pads s) →
    (pads < pad_limit) × (sheet_refusal archived s ≡ 0)
unfolding register_refusal
room-and-taken archived pads s e =
    let zero_both = both-zero (ltb pads pad_limit) (sheet_refusal archived s) (no-refusal (register_refusal archived pads s) e) in
    (ltb-true pads pad_limit zero_both.0, zero_both.1)

-- ---- the hub with one pad more, whatever stands in the arrays that are not lent

-- the hub of a head, of the places' columns and of the lists of records. It stays shut while its parts are rewritten: open, each step would compute the law
-- book's marks place by place
unfoldable hub_with : Head → Listed → List Bool → List Bool → List Element → List ButtonData → List AxisData → List Slot → Hub
hub_with d s hasbutton hasaxis elements buttons axes queue = hub_from d s hasbutton hasaxis elements buttons axes queue

hub-with :
    (d : Head) (s : Listed) (hasbutton hasaxis marks : List Bool) (values : List Float) (times queuebytes queuecodes : List ℕ) →
    hub_of d s (columns hasbutton hasaxis values times marks queuebytes queuecodes)
    ≡ hub_with d s hasbutton hasaxis (elements_of values marks) (buttons_of values times marks) (axes_of values times)
    (slots_of values times queuebytes queuecodes)
unfolding hub_with
hub-with d s hasbutton hasaxis marks values times queuebytes queuecodes = refl

-- cs, ks, ns are codes, kinds and names of the places, vs and ms values and marks of the records; primes mark what the call leaves
module _
    (archived : Bool) (d : Head) (cs ks ns renames : List ℕ) (hasbutton hasaxis : List Bool) (vs : List Float) (times : List ℕ) (ms : List Bool)
    (queuebytes queuecodes : List ℕ) where
  abbrev before : Hub
  before = hub_of d (listed cs ks ns renames) (columns hasbutton hasaxis vs times ms queuebytes queuecodes)

  registered-with :
      (p hats count : ℕ) (rows : List Row) →
      hub_with
      (registered_head d p hats count
      (converts_of hats (laid cs (places_per_pad * p) (map row_code rows)) (laid ns (places_per_pad * p) (map row_name rows)) p))
      (listed (laid cs (places_per_pad * p) (map row_code rows)) (laid ks (places_per_pad * p) (map row_kind rows))
      (laid ns (places_per_pad * p) (map row_name rows)) renames)
      (cleared_of hasbutton (places_per_pad * p) places_per_pad) (cleared_of hasaxis (places_per_pad * p) places_per_pad)
      (laid (elements_of vs ms) (places_per_pad * p) (map row_element rows)) (buttons_of vs times ms) (axes_of vs times)
      (slots_of vs times queuebytes queuecodes)
      ≡ registered_at before p hats count rows
  unfolding hub_with registered_head registered_at
  registered-with p hats count rows = refl

  -- the call where nothing refuses it
  pub register-lent :
      (s : List ℕ) {w hats count : ℕ} {cs' ks' ns' : List ℕ} {hasbutton' hasaxis' : List Bool} {vs' : List Float} {ms' : List Bool}
      {converts : Bool} {d' : Head} →
      Ok tt ≡ answer_of (register_refusal archived d.pads s) →
      hats ≡ hats_of s →
      count ≡ count_of s →
      w ≡ d.pads →
      LaidOut cs ks ns vs ms (places_per_pad * w) (rows_of s (count_of s)) cs' ks' ns' vs' ms' →
      hasbutton' ≡ cleared_of hasbutton (places_per_pad * w) places_per_pad →
      hasaxis' ≡ cleared_of hasaxis (places_per_pad * w) places_per_pad →
      converts ≡ converts_of hats cs' ns' d.pads →
      d' ≡ registered_head d d.pads hats count converts →
      registered (record { head = d'; answer = Ok d.pads }) (listed cs' ks' ns' renames)
      (columns hasbutton' hasaxis' vs' times ms' queuebytes queuecodes)
      ≡ register_as archived before s
  register-lent s e eh en ew rows et em ec ed =
      register-served archived before s e
      (rw (
        hub-with,
        ed,
        ec,
        em,
        et,
        rows.codes,
        rows.kinds,
        rows.names,
        rows.elements,
        rows.buttons times,
        rows.axes times,
        rows.slots times queuebytes queuecodes,
        ew,
        eh,
        en,
      )
      (registered-with d.pads (hats_of s) (count_of s) (rows_of s (count_of s))))
