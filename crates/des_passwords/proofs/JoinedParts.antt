-- A list that is written part by part, the last part cut short.
use Rattle.std.proofs.Common.{◌≡◌, ◌∙◌, sym, ap, ℕ, ◌+◌, ◌*◌, ◌/◌, ◌<◌, ◌≤◌, List, ◌++◌, length, take, drop, length-append, length-drop, length-take-le, arith}
use Rattle.std.proofs.Math.Nat.{mul-le-mul_left}
use Rattle.std.proofs.Math.Seq.{take-append-add}
use Rattle.std.proofs.lemmas.List.{take_all, take_at}
use Rattle.std.proofs.lemmas.Slice.{take-put_mid}
use borrow.Rule.Slice.PartMut.{put_mid}

-- a whole part ends within the list
pub part_fits : (n size i : ℕ) → 0 < size → i < n / size → size * i + size ≤ n
part_fits n size i some below =
    let most : i + 1 ≤ n / size = omega arith in
    omega (arith, mul-le-mul_left size most)

-- a part written over as long a part
length-put_mid : (a k : ℕ) (xs ys : List ℕ) → a + k ≤ length xs → length ys ≡ k
    → length (put_mid a k xs ys) ≡ length xs
length-put_mid a k xs ys within same =
    length-append (take a xs) (ys ++ drop k (drop a xs))
    ∙ omega (
      arith,
      length-append ys (drop k (drop a xs)),
      length-drop k (drop a xs),
      length-drop a xs,
      length-take-le a xs (omega arith),
    )

-- what is written behind the parts before it is the last of the list
put_mid-end : (a k : ℕ) (xs ys : List ℕ) → a + k ≡ length xs → length ys ≡ k → put_mid a k xs ys ≡ take a xs ++ ys
put_mid-end a k xs ys all same =
    sym (take_all (length xs) (put_mid a k xs ys) (omega (arith, length-put_mid a k xs ys (omega arith) same)))
    ∙ take-put_mid a k xs ys (length xs) (omega arith) (omega arith)

-- the last part is the first bytes of one more
pub last_cut : (a k : ℕ) (xs front last : List ℕ) → a + k ≡ length xs → k ≤ length last → take a xs ≡ front
    → put_mid a k xs (take k last) ≡ take (length xs) (front ++ last)
last_cut a k xs front last all fits written =
    let size : length front ≡ a = sym (ap length written) ∙ length-take-le a xs (omega arith) in
    let whole : length front + k ≡ length xs = omega arith in
    put_mid-end a k xs (take k last) all (length-take-le k last fits)
    ∙ ap (λ l. l ++ take k last) written
    ∙ sym (take-append-add front last k)
    ∙ ap (λ n. take n (front ++ last)) whole

-- if no byte is left, one more adds none
pub none_cut : (a : ℕ) (xs front last : List ℕ) → a ≡ length xs → take a xs ≡ front
    → xs ≡ take (length xs) (front ++ last)
none_cut a xs front last all written =
    let size : length front ≡ a = sym (ap length written) ∙ length-take-le a xs (omega arith) in
    sym (take_all a xs (omega arith)) ∙ written ∙ sym (take_at front last (length xs) (omega arith))

-- a part more
pub part_more : (a k b : ℕ) (xs ys front : List ℕ) → a ≤ length xs → b ≡ a + length ys → take a xs ≡ front
    → take b (put_mid a k xs ys) ≡ front ++ ys
part_more a k b xs ys front within next written =
    take-put_mid a k xs ys b next within ∙ ap (λ l. l ++ ys) written

-- all whole parts are written, by another name of their size
pub all_written : (xs : List ℕ) (front : ℕ → List ℕ) (size named count i : ℕ) → size ≡ named → i ≡ count
    → take (named * i) xs ≡ front i → take (size * count) xs ≡ front count
all_written xs front size named count i is ended written =
    ap (λ n. take (size * n) xs) (sym ended) ∙ ap (λ n. take (n * i) xs) is ∙ written ∙ ap front ended

-- the first bytes of the whole parts and one more, by other names of the length and the size
pub one_more : (xs front_and_last : List ℕ) (front : ℕ → List ℕ) (whole size named : ℕ) → length xs ≡ whole
    → size ≡ named → front_and_last ≡ front (whole / size + 1)
    → take (length xs) front_and_last ≡ take whole (front (whole / named + 1))
one_more xs front_and_last front whole size named long is next =
    ap (take (length xs)) next
    ∙ ap (λ n. take n (front (whole / size + 1))) long
    ∙ ap (λ n. take whole (front (whole / n + 1))) is
