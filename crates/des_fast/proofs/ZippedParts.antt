-- Two lists answered together, part after part.
use Rattle.std.proofs.Common.{◌≡◌, ℕ, ◌+◌, ◌<◌, ◌≤◌, List, [], ◌++◌, length, take, drop, get_or, refl, ap, ap₂, sym, ◌∙◌, arith, length-take-le, take-add}
use Rattle.std.specs.Simd.Lanes.{zip2}
use Rattle.std.proofs.lemmas.Simd.{length-zip2, get_or-zip2}
use Rattle.std.proofs.lemmas.List.{ext_get_or}
use Rattle.des.specs.Blocks.{part}
use Rattle.des_fast.proofs.SliceBits.{zip2-append}
use Rattle.des_fast.proofs.WrittenParts.{behind, written-more}

-- a list of which the first m are answers to two others, and then the next n
pub answers-more : (f : List ℕ → List ℕ → List ℕ) (m n : ℕ) (keys texts old now part : List (List ℕ))
    → length keys ≡ length old → length texts ≡ length old → m ≤ length old
    → now ≡ zip2 f (take m keys) (take m texts) ++ drop m old
    → (drop m now ≡ drop m old → part ≡ zip2 f (take n (drop m keys)) (take n (drop m texts)))
    → take m now ++ (part ++ drop n (drop m now)) ≡ zip2 f (take (m + n) keys) (take (m + n) texts) ++ drop (m + n) old
answers-more f m n keys texts old now part as_keys as_texts within so_far made =
    let front : List (List ℕ) = zip2 f (take m keys) (take m texts) in
    let in_keys : length (take m keys) ≡ m = length-take-le m keys (omega arith) in
    let in_texts : length (take m texts) ≡ m = length-take-le m texts (omega arith) in
    let size : length front ≡ m = length-zip2 f (take m keys) (take m texts) (in_keys ∙ sym in_texts) ∙ in_keys in
    written-more m front old now size so_far n part (zip2 f (take (m + n) keys) (take (m + n) texts))
    (ap (λ (xs : List (List ℕ)). front ++ xs) (made (behind m front old now size so_far))
    ∙ sym (ap₂ (zip2 f) (take-add m n keys) (take-add m n texts)
    ∙ zip2-append f (take m keys) (take n (drop m keys)) (take m texts) (take n (drop m texts))
    (in_keys ∙ sym in_texts)))

-- a list of which the first m are answered under keys, and then the next n
pub zipped-more : (f : List ℕ → List ℕ → List ℕ) (m n : ℕ) (keys old now part : List (List ℕ))
    → length keys ≡ length old
    → m ≤ length old → now ≡ zip2 f (take m keys) (take m old) ++ drop m old
    → part ≡ zip2 f (take n (drop m keys)) (take n (drop m now))
    → take m now ++ (part ++ drop n (drop m now)) ≡ zip2 f (take (m + n) keys) (take (m + n) old) ++ drop (m + n) old
zipped-more f m n keys old now part same within so_far made =
    answers-more f m n keys old old now part same refl within so_far
    (λ rest. made ∙ ap (λ (xs : List (List ℕ)). zip2 f (take n (drop m keys)) (take n xs)) rest)

-- answers under keys, one by one
pub zipped-at : (f : List ℕ → List ℕ → List ℕ) (keys old new : List (List ℕ)) → length keys ≡ length old
    → length new ≡ length old
    → ((k : ℕ) → k < length old → get_or new k [] ≡ f (get_or keys k []) (get_or old k []))
    → new ≡ zip2 f keys old
zipped-at f keys old new same count each =
    ext_get_or [] new (zip2 f keys old) (count ∙ sym (length-zip2 f keys old same ∙ same))
    (λ k below.
    let inside : k < length old = omega arith in
    each k inside ∙ sym (get_or-zip2 f keys old k [] [] [] (omega arith) inside))
