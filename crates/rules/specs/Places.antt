-- A pad's 52 places: where a code or a name stands, which names hold at present, how registration lays a sheet out in code order with the unlisted
-- directions merged in, and when a pad converts. The lookup is a search and then a check, so that whatever the hub holds, a place that is found is the
-- pad's and has the code. Definitions only.
use Rattle.std.specs.Prelude.{ℕ, zero, suc, ◌+◌, ◌-◌, ◌*◌, ◌/◌, Bool, false, cond, not, ◌&&◌, ◌||◌, List, [], ◌∷◌, get_or, set, eqb, ltb, leb}
use Rattle.numbers.specs.Constants.{zero32}
use Rattle.numbers.specs.Scale.{low_of, range_of, odd_of, threshold_of}
use Rattle.rules.specs.declared.SheetElement.{SheetElement}
use Rattle.rules.specs.declared.Element.{Element}
use Rattle.rules.specs.declared.Row.{Row}
use Rattle.rules.specs.Names.{pad_limit, places_per_pad, nowhere, no_name, code_up, code_down, code_left, code_right, dpad_right}
use Rattle.rules.specs.Sheets.{element_of, element_button, last_hats}

-- ---- the place of a code

-- the halving search: on codes that do not fall, the first place from lo on, among n, whose code is not below c
unfoldable pub seek_of : ℕ → List ℕ → ℕ → ℕ → ℕ → ℕ
seek_of zero codes lo n c = lo
seek_of (suc k) codes lo n c =
    cond (eqb n 0) lo
    (cond (ltb (get_or codes (lo + n / 2) 0) c) (seek_of k codes (lo + n / 2 + 1) (n - n / 2 - 1) c) (seek_of k codes lo (n / 2) c))

-- 52 places are halved six times
abbrev pub halvings : ℕ
halvings = 6

-- the place, where it is one of the pad's and has the code
unfoldable pub checked_of : List ℕ → ℕ → ℕ → ℕ → ℕ
checked_of codes p c k = cond (ltb p pad_limit && (eqb (k / places_per_pad) p && eqb (get_or codes k 0) c)) k nowhere

unfoldable pub place_of : List ℕ → ℕ → ℕ → ℕ
unfolding seek_of checked_of
place_of codes p c = checked_of codes p c (seek_of halvings codes (places_per_pad * p) places_per_pad c)

-- the plain scan that the search equals on rising codes: the first of n places from k on that has the code
unfoldable pub scan_of : List ℕ → ℕ → ℕ → ℕ → ℕ
scan_of codes zero k c = nowhere
scan_of codes (suc n) k c = cond (eqb (get_or codes k 0) c) k (scan_of codes n (k + 1) c)

-- ---- present names

-- a pad that was renamed goes by its rename list until its next Connected, any other by its sheet
unfoldable pub present_names : List ℕ → List ℕ → List Bool → ℕ → List ℕ
present_names names renames renamed p = cond (get_or renamed p false) renames names

-- the place that has a name: the first of the pad's 52
unfoldable pub named_of : List ℕ → ℕ → ℕ → ℕ
unfolding scan_of
named_of names p name = cond (ltb p pad_limit) (scan_of names places_per_pad (places_per_pad * p) name) nowhere

-- ---- how registration lays a sheet out

-- a button element, or a place with no element, keeps nothing of these
abbrev pub no_element : Element
no_element = record { low = zero32; range = zero32; odd = false; threshold = zero32 }

unfoldable pub axis_element : SheetElement → Element
unfolding low_of range_of odd_of threshold_of
axis_element e =
    record {
      low = low_of e.min;
      range = range_of e.min e.max;
      odd = odd_of e.min e.max;
      threshold = threshold_of e.min e.max e.deadzone;
    }

unfoldable pub listed_row : SheetElement → Row
unfolding axis_element
listed_row e = record { code = e.code; kind = e.kind; name = e.name; element = cond (eqb e.kind element_button) no_element (axis_element e) }

-- a direction that the sheet does not list, or a place past the last: no kind, no name
abbrev pub unlisted_row : ℕ → Row
unlisted_row c = record { code = c; kind = 0; name = no_name; element = no_element }

abbrev pub directions : ℕ
directions = 4

-- whether the next place, with i of n elements and d of the four directions laid, is the i-th element's
unfoldable pub element_next : List ℕ → ℕ → ℕ → ℕ → Bool
unfolding element_of
element_next s n i d = ltb i n && (leb directions d || leb (element_of s i).code (code_up + d))

-- whether the next place is the d-th direction's, listed or not
unfoldable pub direction_next : List ℕ → ℕ → ℕ → ℕ → Bool
unfolding element_of
direction_next s n i d = ltb d directions && (leb n i || leb (code_up + d) (element_of s i).code)

-- the next place: an element, else a direction, else the code before it once more
unfoldable pub next_row : List ℕ → ℕ → ℕ → ℕ → ℕ → Row
unfolding listed_row element_next direction_next element_of
next_row s n i d last =
    cond (element_next s n i d) (listed_row (element_of s i)) (unlisted_row (cond (direction_next s n i d) (code_up + d) last))

abbrev pub one_if : Bool → ℕ
one_if b = cond b 1 0

-- the k places from here on
unfoldable pub rows_from : ℕ → List ℕ → ℕ → ℕ → ℕ → ℕ → List Row
unfolding next_row element_next direction_next
rows_from zero s n i d last = []
rows_from (suc k) s n i d last =
    next_row s n i d last
    ∷ rows_from k s n (i + one_if (element_next s n i d)) (d + one_if (direction_next s n i d)) (next_row s n i d last).code

-- a pad's 52 places, in code order
unfoldable pub rows_of : List ℕ → ℕ → List Row
unfolding rows_from
rows_of s n = rows_from places_per_pad s n 0 0 0

-- ---- "A pad converts if hats is 15, or hats is 0 and no direction code is named and no element is named DPadRight"

unfoldable pub code_named : List ℕ → List ℕ → ℕ → ℕ → Bool
unfolding place_of
code_named codes names p c = not (eqb (get_or names (place_of codes p c) no_name) no_name)

unfoldable pub direction_named : List ℕ → List ℕ → ℕ → Bool
unfolding code_named
direction_named codes names p =
    code_named codes names p code_right
    || (code_named codes names p code_left || (code_named codes names p code_down || code_named codes names p code_up))

unfoldable pub converts_of : ℕ → List ℕ → List ℕ → ℕ → Bool
unfolding direction_named named_of
converts_of hats codes names p =
    eqb hats last_hats
    || (eqb hats 0 && (not (direction_named codes names p) && eqb (named_of names p dpad_right) nowhere))

-- ---- marks taken off: n of them from the i-th on

unfoldable pub cleared_of : List Bool → ℕ → ℕ → List Bool
cleared_of marks i zero = marks
cleared_of marks i (suc n) = cleared_of (set marks i false) (i + 1) n
