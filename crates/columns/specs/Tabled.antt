-- A list that is made place by place: its elements, and what it is after one place is made anew.
use Rattle.std.specs.Prelude.{ℕ, zero, suc, ◌+◌, ◌≤◌, ◌<◌, ◌≡◌, refl, ◌≢◌, List, [], ◌∷◌, get_or, set, replicate}
use Rattle.std.proofs.Common.{sym, ◌∙◌, ap, arith, zero-add}

-- the n elements from place i on
unfoldable pub tabled : {A : Type 0} → ℕ → ℕ → (ℕ → A) → List A
tabled i zero f = []
tabled i (suc n) f = f i ∷ tabled (suc i) n f

at_next : {A : Type 0} (f : ℕ → A) (i k : ℕ) → f (suc i + k) ≡ f (i + suc k)
at_next f i k = ap f (omega arith)

from_at : {A : Type 0} (i n : ℕ) (f : ℕ → A) (k : ℕ) (d : A) → k < n → get_or (tabled i n f) k d ≡ f (i + k)
unfolding tabled
from_at i zero f k d l = absurd (omega arith)
from_at i (suc n) f zero d l = ap f (omega arith)
from_at i (suc n) f (suc k) d l = from_at (suc i) n f k d (omega arith) ∙ at_next f i k

from-same : {A : Type 0} (i n : ℕ) (f g : ℕ → A) → ((j : ℕ) → i ≤ j → j < i + n → g j ≡ f j) → tabled i n g ≡ tabled i n f
unfolding tabled
from-same i zero f g h = refl
from-same i (suc n) f g h =
    rw (h i (omega arith) (omega arith), from-same (suc i) n f g (λ j l m. h j (omega arith) (omega arith)))

from-set :
    {A : Type 0} (i n : ℕ) (f g : ℕ → A) (k : ℕ) (x : A) →
    k < n →
    g (i + k) ≡ x →
    ((j : ℕ) → j < i + n → j ≢ i + k → g j ≡ f j) →
    tabled i n g ≡ set (tabled i n f) k x
unfolding tabled
from-set i zero f g k x l e h = absurd (omega arith)
from-set i (suc n) f g zero x l e h =
    let at : g i ≡ x = ap g (omega arith) ∙ e in
    rw (at, from-same (suc i) n f g (λ j m s. h j (omega arith) (λ b. omega arith)))
from-set i (suc n) f g (suc k) x l e h =
    let at : g i ≡ f i = h i (omega arith) (λ b. omega arith) in
    rw (at, from-set (suc i) n f g k x (omega arith) (at_next g i k ∙ e) (λ j s m. h j (omega arith) (λ b. m (b ∙ omega arith))))

-- ---- from the start

pub tabled-at : {A : Type 0} (n : ℕ) (f : ℕ → A) (k : ℕ) (d : A) → k < n → get_or (tabled 0 n f) k d ≡ f k
tabled-at n f k d l = from_at 0 n f k d l ∙ ap f (zero-add k)

pub tabled-same : {A : Type 0} (n : ℕ) (f g : ℕ → A) → ((j : ℕ) → j < n → g j ≡ f j) → tabled 0 n g ≡ tabled 0 n f
tabled-same n f g h = from-same 0 n f g (λ j l m. h j (omega arith))

-- one place made anew
pub tabled-set :
    {A : Type 0} (n : ℕ) (f g : ℕ → A) (k : ℕ) (x : A) →
    k < n →
    g k ≡ x →
    ((j : ℕ) → j < n → j ≢ k → g j ≡ f j) →
    tabled 0 n g ≡ set (tabled 0 n f) k x
tabled-set n f g k x l e h =
    from-set 0 n f g k x l (ap g (zero-add k) ∙ e) (λ j m p. h j (omega arith) (λ b. p (b ∙ sym (zero-add k))))

-- the same at every place
from_one : {A : Type 0} (i n : ℕ) (x : A) → tabled i n (λ j. x) ≡ replicate n x
unfolding tabled
from_one i zero x = refl
from_one i (suc n) x = rw (from_one (suc i) n x)

pub tabled-one : {A : Type 0} (n : ℕ) (f : ℕ → A) (x : A) → ((j : ℕ) → j < n → f j ≡ x) → tabled 0 n f ≡ replicate n x
tabled-one n f x h = tabled-same n (λ j. x) f h ∙ from_one 0 n x
