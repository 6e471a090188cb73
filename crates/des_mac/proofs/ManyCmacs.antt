-- Many tags of CMAC at once: the ends of chains through masked messages.
use Rattle.std.proofs.Common.{◌≡◌, ℕ, ◌/◌, ◌<◌, List, [], length, map, get_or, ap, sym, ◌∙◌, arith}
use Rattle.std.specs.Simd.Lanes.{zip2}
use Rattle.std.proofs.lemmas.Simd.{length-zip2, get_or-zip2}
use Rattle.std.proofs.lemmas.List.{ext_get_or}
use Rattle.des_fast.specs.ChainingValues.{AreChainingValues, under_key}
use Rattle.des_mac.specs.CbcMac.{zero_block, block_after, cbc_mac}
use Rattle.des_mac.specs.Cmac.{masked_message, cmac}
use Rattle.des_mac.proofs.ManyChains.{end-cbc_mac, ends-cbc_macs_of}

-- under one key, of which the block of zeros is encrypted
pub ends-cmacs_of : (f : List ℕ → List ℕ) (zeros : List ℕ) (texts firsts ends : List (List ℕ)) → zeros ≡ f zero_block
    → length firsts ≡ length texts → length ends ≡ length firsts
    → ((k : ℕ) → k < length firsts → get_or firsts k [] ≡ zero_block)
    → AreChainingValues (λ k. f) (λ k i. block_after (masked_message zeros (get_or texts k [])) i)
    (λ k. length (masked_message zeros (get_or texts k [])) / 8) firsts ends
    → ends ≡ map (λ m. cmac f m) texts
ends-cmacs_of f zeros texts firsts ends encrypted as_texts count cleared are =
    ends-cbc_macs_of f (masked_message zeros) texts firsts ends as_texts count cleared are
    ∙ ap (λ (l : List ℕ). map (λ m. cbc_mac f (masked_message l m)) texts) encrypted

-- and under a key for each
pub ends-cmacs : (encryption : List ℕ → List ℕ → List ℕ) (keys zeros texts firsts ends : List (List ℕ))
    → length keys ≡ length firsts → length firsts ≡ length texts → length ends ≡ length firsts
    → ((k : ℕ) → k < length firsts → get_or zeros k [] ≡ under_key encryption keys k zero_block)
    → ((k : ℕ) → k < length firsts → get_or firsts k [] ≡ zero_block)
    → AreChainingValues (under_key encryption keys)
    (λ k i. block_after (masked_message (get_or zeros k []) (get_or texts k [])) i)
    (λ k. length (masked_message (get_or zeros k []) (get_or texts k [])) / 8) firsts ends
    → ends ≡ zip2 (λ key m. cmac (encryption key) m) keys texts
ends-cmacs encryption keys zeros texts firsts ends as_keys as_texts count encrypted cleared are =
    let tag : List ℕ → List ℕ → List ℕ = λ key m. cmac (encryption key) m in
    let width : length (zip2 tag keys texts) ≡ length keys = length-zip2 tag keys texts (as_keys ∙ as_texts) in
    ext_get_or [] ends (zip2 tag keys texts) (count ∙ sym as_keys ∙ sym width)
    (λ k below.
    let inside : k < length firsts = omega arith in
    let m : List ℕ = get_or texts k [] in
    are k inside
    ∙ end-cbc_mac (under_key encryption keys k) (masked_message (get_or zeros k []) m) (get_or firsts k [])
    (cleared k inside)
    ∙ ap (λ (l : List ℕ). cbc_mac (under_key encryption keys k) (masked_message l m)) (encrypted k inside)
    ∙ sym (get_or-zip2 tag keys texts k [] [] [] (omega arith) (omega arith)))
