-- Tables: lists that are given by their elements.
use mathlib.Core.Path.{◌≡◌, refl, sym, ◌∙◌, ap, subst}
use mathlib.Core.List.{List, [], ◌∷◌, ◌++◌}
use Prim.Native.Nat.{ℕ, zero, suc, ◌+◌, ◌*◌, ◌-◌, ◌≤◌, ◌<◌}
use native.Mathlib.Numerals.{add-one}
use native.Mathlib.Omega.{arith}
use native.Mathlib.Decide.{dec_lt}
use lib.ListN.{length, take, drop, length-append, length-drop, get_or-append}
use lib.Seq.{ext_get_or, get_or-append-add, get_or-drop, get_or-take, get_or_at, length-take-le}
use Rattle.layout.specs.Layout.{at, table, packed, payload_byte, payload_size}

pub length_table : (f : ℕ → ℕ) (m : ℕ) → length (table f m) ≡ m
unfolding table
length_table f zero = refl
length_table f (suc m) = length-append (table f m) _ ∙ ap (λ (k : ℕ). k + 1) (length_table f m) ∙ add-one m

-- element i is f i
pub table_at : (f : ℕ → ℕ) (m i : ℕ) → i < m → at (table f m) i ≡ f i
unfolding table
table_at f zero i h = absurd (omega arith)
table_at f (suc m) i h = go (λ lt. table_at f m i lt) (dec_lt i m)
  where
    go : (i < m → at (table f m) i ≡ f i) → Dec (i < m) → at (table f m ++ (f m ∷ [])) i ≡ f i
    go ih (yes lt) = get_or-append (table f m) _ 0 i (rw length_table lt) ∙ ih lt
    go ih (no ge) =
        let e : i ≡ m = omega arith in
        rw e (get_or_at (table f m) (f m) [] 0 m (length_table f m))

-- a list of m elements that are f 0, f 1, .. is the table
pub table_of : (f : ℕ → ℕ) (m : ℕ) (xs : List ℕ) → length xs ≡ m → ((i : ℕ) → i < m → at xs i ≡ f i) → table f m ≡ xs
table_of f m xs size here =
    ext_get_or 0 (table f m) xs (length_table f m ∙ sym size)
    (λ i h. table_at f m i (rw length_table at h) ∙ sym (here i (rw length_table at h)))

pub table_ext : (f g : ℕ → ℕ) (m : ℕ) → ((i : ℕ) → i < m → f i ≡ g i) → table f m ≡ table g m
table_ext f g m same =
    table_of f m (table g m) (length_table g m) (λ i h. table_at g m i h ∙ sym (same i h))

-- the front of a table
pub take_table : (f : ℕ → ℕ) (k m : ℕ) → k ≤ m → take k (table f m) ≡ table f k
take_table f k m h =
    let len : length (take k (table f m)) ≡ k = length-take-le k (table f m) (rw length_table h) in
    sym (table_of f k (take k (table f m)) len (λ i lt. get_or-take k (table f m) i 0 lt ∙ table_at f m i (omega arith)))

-- a list that is the table at its front, and as before behind that
pub front_table : (f : ℕ → ℕ) (m : ℕ) (before after : List ℕ) → length after ≡ length before → m ≤ length before
    → ((i : ℕ) → i < m → at after i ≡ f i) → ((i : ℕ) → m ≤ i → at after i ≡ at before i)
    → after ≡ table f m ++ drop (length (table f m)) before
front_table f m before after size fits here rest =
    rw (length_table f m)
    (ext_get_or 0 after (table f m ++ drop m before)
    (rw (length-append, length_table, length-drop) (omega arith))
    (λ i h. go i (dec_lt i m)))
  where
    behind : (k : ℕ) → at (table f m ++ drop m before) (m + k) ≡ at before (m + k)
    behind k =
        subst (λ (q : ℕ). at (table f m ++ drop m before) (q + k) ≡ at (drop m before) k) (length_table f m) (get_or-append-add (table f m) (drop m before) k 0)
        ∙ get_or-drop m before k 0

    go : (i : ℕ) → Dec (i < m) → at after i ≡ at (table f m ++ drop m before) i
    go i (yes lt) = here i lt ∙ sym (get_or-append (table f m) _ 0 i (rw length_table lt) ∙ table_at f m i lt)
    go i (no ge) =
        let e : m + (i - m) ≡ i = omega arith in
        rest i (omega arith) ∙ sym (rw e at (behind (i - m)))

-- "A payload has 4Ln bytes."
pub length_packed : (L n : ℕ) (e : ℕ → ℕ) → length (packed L n e) ≡ 4 * L * n
unfolding packed
length_packed L n e = length_table (payload_byte L n e) (payload_size L n)
