-- Many tags at once: the ends of chains through padded messages.
use Rattle.std.proofs.Common.{◌≡◌, ℕ, zero, suc, ◌+◌, ◌/◌, ◌<◌, ◌≤◌, List, [], ◌++◌, length, map, take, drop, get_or, refl, ap, ap₂, sym, ◌∙◌, arith, length-take-le, take_at, drop_at}
use Rattle.std.specs.Simd.Lanes.{zip2}
use Rattle.std.proofs.lemmas.Simd.{length-zip2, get_or-zip2}
use Rattle.std.proofs.lemmas.List.{length-drop, length-map, get_or-map, get_or-take, get_or-drop, ext_get_or}
use Rattle.des.specs.Cbc.{xor_blocks}
use Rattle.des_fast.specs.ChainingValues.{chain_from, AreChainingValues, under_key}
use Rattle.des_mac.specs.RetailMac.{retail_mac, retail_mac_of}
use Rattle.des_mac.specs.CbcMac.{zero_block, block_after, chain_after, cbc_mac}

-- eight bytes that are those of a list from a place on
pub bytes-from : (block whole : List ℕ) (place : ℕ) → length block ≡ 8 → place + 8 ≤ length whole
    → ((k : ℕ) → k < 8 → get_or block k 0 ≡ get_or whole (place + k) 0) → block ≡ take 8 (drop place whole)
bytes-from block whole place width fits each =
    let taken : length (take 8 (drop place whole)) ≡ 8 =
    length-take-le 8 (drop place whole) (omega (arith, length-drop place whole)) in
    ext_get_or 0 block (take 8 (drop place whole)) (width ∙ sym taken)
    (λ k below.
    let low : k < 8 = omega arith in
    each k low ∙ sym (get_or-take 8 (drop place whole) k 0 low ∙ get_or-drop place whole k 0))

-- the chain from a block of zeros is that of CBC-MAC
chain_from-zeros : (f : List ℕ → List ℕ) (m : List ℕ) (n : ℕ)
    → chain_from f zero_block (block_after m) n ≡ chain_after f m n
unfolding chain_from chain_after
chain_from-zeros f m zero = refl
chain_from-zeros f m (suc n) =
    ap (λ (chain : List ℕ). f (xor_blocks (block_after m n) chain)) (chain_from-zeros f m n)

-- so the end of a chain through the blocks of bytes is their tag
pub end-cbc_mac : (f : List ℕ → List ℕ) (m first : List ℕ) → first ≡ zero_block
    → chain_from f first (block_after m) (length m / 8) ≡ cbc_mac f m
unfolding cbc_mac
end-cbc_mac f m first zeros =
    ap (λ (block : List ℕ). chain_from f block (block_after m) (length m / 8)) zeros
    ∙ chain_from-zeros f m (length m / 8)

-- under one key
pub ends-cbc_macs_of : (f : List ℕ → List ℕ) (bytes_of : List ℕ → List ℕ) (texts firsts ends : List (List ℕ))
    → length firsts ≡ length texts → length ends ≡ length firsts
    → ((k : ℕ) → k < length firsts → get_or firsts k [] ≡ zero_block)
    → AreChainingValues (λ k. f) (λ k i. block_after (bytes_of (get_or texts k [])) i)
    (λ k. length (bytes_of (get_or texts k [])) / 8) firsts ends
    → ends ≡ map (λ m. cbc_mac f (bytes_of m)) texts
ends-cbc_macs_of f bytes_of texts firsts ends as_texts count zeros are =
    let tag : List ℕ → List ℕ = λ m. cbc_mac f (bytes_of m) in
    ext_get_or [] ends (map tag texts) (count ∙ as_texts ∙ sym (length-map texts tag))
    (λ k below.
    let inside : k < length firsts = omega arith in
    are k inside
    ∙ end-cbc_mac f (bytes_of (get_or texts k [])) (get_or firsts k []) (zeros k inside)
    ∙ sym (get_or-map tag texts k [] [] (omega arith)))

-- and under a key for each
pub ends-cbc_macs : (encryption : List ℕ → List ℕ → List ℕ) (bytes_of : List ℕ → List ℕ)
    (keys texts firsts ends : List (List ℕ)) → length keys ≡ length firsts → length firsts ≡ length texts
    → length ends ≡ length firsts → ((k : ℕ) → k < length firsts → get_or firsts k [] ≡ zero_block)
    → AreChainingValues (under_key encryption keys) (λ k i. block_after (bytes_of (get_or texts k [])) i)
    (λ k. length (bytes_of (get_or texts k [])) / 8) firsts ends
    → ends ≡ zip2 (λ key m. cbc_mac (encryption key) (bytes_of m)) keys texts
ends-cbc_macs encryption bytes_of keys texts firsts ends as_keys as_texts count zeros are =
    let tag : List ℕ → List ℕ → List ℕ = λ key m. cbc_mac (encryption key) (bytes_of m) in
    let width : length (zip2 tag keys texts) ≡ length keys = length-zip2 tag keys texts (as_keys ∙ as_texts) in
    ext_get_or [] ends (zip2 tag keys texts) (count ∙ sym as_keys ∙ sym width)
    (λ k below.
    let inside : k < length firsts = omega arith in
    are k inside
    ∙ end-cbc_mac (under_key encryption keys k) (bytes_of (get_or texts k [])) (get_or firsts k []) (zeros k inside)
    ∙ sym (get_or-zip2 tag keys texts k [] [] [] (omega arith) (omega arith)))

-- ---- retail MACs

-- chains ended under first keys, taken back under second keys, and forth under the first again
pub retail_macs-zipped : (size : ℕ) (encryption decryption : List ℕ → List ℕ → List ℕ) (bytes_of : List ℕ → List ℕ)
    (first second texts : List (List ℕ)) → length second ≡ length first → length texts ≡ length first
    → ((k : ℕ) → k < length first → length (get_or first k []) ≡ size)
    → zip2 encryption first (zip2 decryption second (zip2 (λ key m. cbc_mac (encryption key) (bytes_of m)) first texts))
    ≡ zip2 (λ key m. retail_mac_of size encryption decryption key (bytes_of m))
    (zip2 (λ key more. key ++ more) first second) texts
retail_macs-zipped size encryption decryption bytes_of first second texts as_second as_texts sized =
    let chain : List ℕ → List ℕ → List ℕ = λ key m. cbc_mac (encryption key) (bytes_of m) in
    let join : List ℕ → List ℕ → List ℕ = λ key more. key ++ more in
    let tag : List ℕ → List ℕ → List ℕ = λ key m. retail_mac_of size encryption decryption key (bytes_of m) in
    let chains : List (List ℕ) = zip2 chain first texts in
    let backs : List (List ℕ) = zip2 decryption second chains in
    let keys : List (List ℕ) = zip2 join first second in
    let in_chains : length chains ≡ length first = length-zip2 chain first texts (sym as_texts) in
    let in_backs : length backs ≡ length first =
    length-zip2 decryption second chains (as_second ∙ sym in_chains) ∙ as_second in
    let in_keys : length keys ≡ length first = length-zip2 join first second (sym as_second) in
    let in_forth : length (zip2 encryption first backs) ≡ length first = length-zip2 encryption first backs (sym
    in_backs) in
    let in_tags : length (zip2 tag keys texts) ≡ length first = length-zip2 tag keys texts (in_keys ∙ sym as_texts)
    ∙ in_keys in
    ext_get_or [] (zip2 encryption first backs) (zip2 tag keys texts) (in_forth ∙ sym in_tags)
    (λ k below.
    let inside : k < length first = omega arith in
    let key : List ℕ = get_or first k [] in
    let more : List ℕ = get_or second k [] in
    let m : List ℕ = get_or texts k [] in
    get_or-zip2 encryption first backs k [] [] [] inside (omega arith)
    ∙ ap (encryption key) (get_or-zip2 decryption second chains k [] [] [] (omega arith) (omega arith)
    ∙ ap (decryption more) (get_or-zip2 chain first texts k [] [] [] inside (omega arith)))
    ∙ sym (ap₂ (λ (one two : List ℕ). retail_mac encryption decryption one two (bytes_of m))
    (take_at key more size (sized k inside)) (drop_at key more size (sized k inside)))
    ∙ sym (ap (λ (both : List ℕ). tag both m) (get_or-zip2 join first second k [] [] [] inside (omega arith)))
    ∙ sym (get_or-zip2 tag keys texts k [] [] [] (omega arith) (omega arith)))
