-- Blocks of a list, each answered by one function.
use Rattle.std.proofs.Common.{◌≡◌, ℕ, ◌<◌, List, [], ◌++◌, length, map, get_or, ap, ap₂, sym, ◌∙◌, arith, take_at, drop_at}
use Rattle.std.proofs.lemmas.List.{get_or-map, length-map, ext_get_or}
use Rattle.std.proofs.lemmas.List.Elements.{All-get_or}
use Rattle.std.proofs.lemmas.Simd.{map-map}
use Rattle.std.specs.List.{All}
use Rattle.des.specs.Blocks.{IsBlock}
use Rattle.des_mac.specs.CbcMac.{cbc_mac}
use Rattle.des_mac.specs.RetailMac.{retail_mac, retail_mac_of}

-- two functions that answer blocks alike answer lists of blocks alike
pub mapped-alike : (f h : List ℕ → List ℕ) (blocks : List (List ℕ)) → All IsBlock blocks
    → ((block : List ℕ) → IsBlock block → f block ≡ h block) → map f blocks ≡ map h blocks
mapped-alike f h blocks are_blocks alike =
    ext_get_or [] (map f blocks) (map h blocks) (length-map blocks f ∙ sym (length-map blocks h))
    (λ k below.
    let inside : k < length blocks = omega (arith, length-map blocks f, below) in
    get_or-map f blocks k [] [] inside
    ∙ alike (get_or blocks k []) (All-get_or IsBlock blocks k [] inside are_blocks)
    ∙ sym (get_or-map h blocks k [] [] inside))

-- chains ended under a first key, taken back under a second, and forth under the first again
pub retail_macs-mapped : (size : ℕ) (encryption decryption : List ℕ → List ℕ → List ℕ) (bytes_of : List ℕ → List ℕ)
    (first second : List ℕ) (texts : List (List ℕ)) → length first ≡ size
    → map (encryption first) (map (decryption second) (map (λ m. cbc_mac (encryption first) (bytes_of m)) texts))
    ≡ map (λ m. retail_mac_of size encryption decryption (first ++ second) (bytes_of m)) texts
retail_macs-mapped size encryption decryption bytes_of first second texts sized =
    let chain : List ℕ → List ℕ = λ m. cbc_mac (encryption first) (bytes_of m) in
    ap (map (encryption first)) (map-map (decryption second) chain texts)
    ∙ map-map (encryption first) (λ m. decryption second (chain m)) texts
    ∙ sym (ap₂ (λ (one two : List ℕ). map (λ m. retail_mac encryption decryption one two (bytes_of m)) texts)
    (take_at first second size sized) (drop_at first second size sized))
