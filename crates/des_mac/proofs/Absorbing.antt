-- How the chain and the pending bytes follow a message as it grows.
use Rattle.std.proofs.Common.{◌≡◌, ℕ, ◌+◌, ◌-◌, ◌*◌, ◌/◌, ◌%◌, ◌<◌, ◌≤◌, List, [], ◌++◌, length, take, drop, get_or, refl, sym, ap, ◌∙◌, arith, length-append, append_assoc}
use Rattle.std.specs.Simd.{first_chunks}
use Rattle.std.proofs.lemmas.List.{drop-append-le, take_all, drop-drop, take-append-drop, length-take-le, drop_at}
use Rattle.des.specs.Cbc.{xor_blocks}
use Rattle.des_mac.specs.Padding.{block_count, AreWholeBlocks}
use Rattle.des_mac.specs.CbcMac.{zero_block, block_after, chain_after, cbc_mac}
use Rattle.des_mac.specs.Cmac.{masked}
use Rattle.des_mac.specs.Absorbed.{Absorbed}
use Rattle.des.proofs.KeyParts.{get_or-first_chunks}
use Rattle.des_mac.proofs.ChainedBytes.{block_after-append, block_after-past, chain_after-append, chain_after-next}

-- the state of no bytes
pub Absorbed-none : (e : List ℕ → List ℕ) (pending : List ℕ) → length pending ≡ 8 → Absorbed e 0 zero_block pending 0 []
unfolding chain_after
Absorbed-none e pending width = record { width = width; counted = refl; chained = refl; kept = refl }

-- more bytes are pending
pub Absorbed-pending : (e : List ℕ → List ℕ) (n : ℕ) (chain pending : List ℕ) (count : ℕ) (m bytes : List ℕ) (now : List ℕ)
    (total : ℕ)
    → Absorbed e n chain pending count m → length now ≡ 8 → total ≡ count + length bytes
    → take total now ≡ take count pending ++ bytes → Absorbed e n chain now total (m ++ bytes)
Absorbed-pending e n chain pending count m bytes now total a width sum joined =
    let counted : 8 * n + count ≡ length m = a.counted in
    record {
      width = width;
      counted = omega (arith, length-append m bytes);
      chained = a.chained ∙ sym (chain_after-append e m bytes n (omega arith));
      kept = rw (joined, a.kept) (sym (drop-append-le (8 * n) m bytes (omega arith)));
    }

-- the pending bytes are a whole block: the chain with it
pub chain_after-pending : (e : List ℕ → List ℕ) (n : ℕ) (chain pending : List ℕ) (m : List ℕ)
    → Absorbed e n chain pending 8 m → e (xor_blocks pending chain) ≡ chain_after e m (n + 1)
chain_after-pending e n chain pending m a =
    let width : length pending ≡ 8 = a.width in
    let last : drop (8 * n) m ≡ pending = sym a.kept ∙ take_all 8 pending (omega arith) in
    let block : block_after m n ≡ pending = rw last (take_all 8 pending (omega arith)) in
    rw (chain_after-next e m n, block, a.chained) refl

-- bytes that fill the pending block with their head go on with the blocks of their rest
module _ (e : List ℕ → List ℕ) (n : ℕ) (m head rest bytes : List ℕ) (joined : head ++ rest ≡ bytes)
    (full : length (m ++ head) ≡ 8 * (n + 1)) where
  regrouped : (m ++ head) ++ rest ≡ m ++ bytes
  regrouped = append_assoc m head rest ∙ ap (λ (end : List ℕ). m ++ end) joined

  -- the chain with the pending block
  pub chain_after-filled : (chain pending : List ℕ) → Absorbed e n chain pending 8 (m ++ head)
      → e (xor_blocks pending chain) ≡ chain_after e (m ++ bytes) (n + 1)
  chain_after-filled chain pending a =
      chain_after-pending e n chain pending (m ++ head) a
      ∙ sym (chain_after-append e (m ++ head) rest (n + 1) (omega arith))
      ∙ ap (λ (all : List ℕ). chain_after e all (n + 1)) regrouped

  module _ (whole last : List ℕ) (cut : whole ++ last ≡ rest) where
    -- the blocks of the rest are those of the message
    pub block_after-rest : (blocks : List (List ℕ)) → blocks ≡ first_chunks 8 (length whole / 8) whole → (i : ℕ)
        → i < length whole / 8 → get_or blocks i [] ≡ block_after (m ++ bytes) (n + 1 + i)
    block_after-rest blocks chunks i within =
        ap (λ (list : List (List ℕ)). get_or list i []) chunks
        ∙ get_or-first_chunks (length whole / 8) i whole within
        ∙ sym (block_after-append whole last i (omega arith))
        ∙ ap (λ (list : List ℕ). block_after list i) cut
        ∙ sym (block_after-past (m ++ head) rest (n + 1) i full)
        ∙ ap (λ (all : List ℕ). block_after all (n + 1 + i)) regrouped

    -- and what comes after them is pending
    pub Absorbed-rest : (chain pending : List ℕ) (count k : ℕ) → length pending ≡ 8 → length whole ≡ 8 * k
        → count ≡ length last
        → take count pending ≡ last → chain ≡ chain_after e (m ++ bytes) (n + 1 + k)
        → Absorbed e (n + 1 + k) chain pending count (m ++ bytes)
    Absorbed-rest chain pending count k width blocks long kept chained =
        let all : length ((m ++ head) ++ rest) ≡ length (m ++ head) + length rest = length-append (m ++ head) rest in
        let parts : length (whole ++ last) ≡ length whole + length last = length-append whole last in
        let same : length (whole ++ last) ≡ length rest = ap length cut in
        let total : length ((m ++ head) ++ rest) ≡ length (m ++ bytes) = ap length regrouped in
        let past : 8 * (n + 1 + k) ≡ 8 * (n + 1) + 8 * k = omega arith in
        record {
          width = width;
          counted = omega arith;
          chained = chained;
          kept = kept ∙ sym (
              ap (λ (list : List ℕ). drop (8 * (n + 1 + k)) list) (sym regrouped)
              ∙ ap (λ (at : ℕ). drop at ((m ++ head) ++ rest)) past
              ∙ sym (drop-drop (8 * k) (8 * (n + 1)) ((m ++ head) ++ rest))
              ∙ ap (drop (8 * k)) (drop_at (m ++ head) rest (8 * (n + 1)) full)
              ∙ ap (drop (8 * k)) (sym cut)
              ∙ drop_at whole last (8 * k) blocks);
        }

-- the state of whole blocks holds the last of them, so the tag is the chain with it
pub cbc_mac-pending : (e : List ℕ → List ℕ) (chain pending : List ℕ) (count : ℕ) (m : List ℕ) → AreWholeBlocks (length m)
    → Absorbed e (block_count (length m) - 1) chain pending count m → e (xor_blocks pending chain) ≡ cbc_mac e m
unfolding cbc_mac
cbc_mac-pending e chain pending count m whole a =
    let counted : 8 * (block_count (length m) - 1) + count ≡ length m = a.counted in
    let some : 8 ≤ length m = whole.1 in
    let even : length m % 8 ≡ 0 = whole.0 in
    let full : count ≡ 8 = omega arith in
    let blocks : length m / 8 ≡ block_count (length m) - 1 + 1 = omega arith in
    rw blocks (chain_after-pending e (block_count (length m) - 1) chain pending m (rw full at a))

-- and with a subkey it is the chain with the last block xor the subkey
pub cbc_mac-masked : (e : List ℕ → List ℕ) (chain pending : List ℕ) (count : ℕ) (m subkey : List ℕ)
    → length (xor_blocks pending subkey) ≡ 8 → AreWholeBlocks (length m)
    → Absorbed e (block_count (length m) - 1) chain pending count m
    → e (xor_blocks (xor_blocks pending subkey) chain) ≡ cbc_mac e (masked subkey m)
unfolding cbc_mac masked
cbc_mac-masked e chain pending count m subkey masked_width whole a =
    let width : length pending ≡ 8 = a.width in
    let n : ℕ = block_count (length m) - 1 in
    let counted : 8 * (block_count (length m) - 1) + count ≡ length m = a.counted in
    let some : 8 ≤ length m = whole.1 in
    let even : length m % 8 ≡ 0 = whole.0 in
    let full : count ≡ 8 = omega arith in
    let at : length m - 8 ≡ 8 * (block_count (length m) - 1) = omega arith in
    let front : List ℕ = take (8 * n) m in
    let x : List ℕ = xor_blocks pending subkey in
    let long : length (take (8 * n) m) ≡ 8 * n = length-take-le (8 * n) m (omega arith) in
    let last : drop (8 * n) m ≡ pending = sym a.kept ∙ take_all count pending (omega arith) in
    let sum : length (take (8 * n) m ++ xor_blocks pending subkey) ≡ 8 * n + 8 =
    omega (arith, length-append (take (8 * n) m) (xor_blocks pending subkey)) in
    let blocks : length (take (8 * n) m ++ xor_blocks pending subkey) / 8 ≡ n + 1 = omega arith in
    let block : block_after (take (8 * n) m ++ xor_blocks pending subkey) n ≡ xor_blocks pending subkey =
    ap (take 8) (drop_at (take (8 * n) m) (xor_blocks pending subkey) (8 * n) long)
    ∙ take_all 8 (xor_blocks pending subkey) (omega arith) in
    let before : chain_after e (take (8 * n) m ++ xor_blocks pending subkey) n ≡ chain =
    chain_after-append e (take (8 * n) m) (xor_blocks pending subkey) n (omega arith)
    ∙ sym (chain_after-append e (take (8 * n) m) (drop (8 * n) m) n (omega arith))
    ∙ ap (λ (bytes : List ℕ). chain_after e bytes n) (take-append-drop (8 * n) m)
    ∙ sym a.chained in
    rw (at, last, blocks, chain_after-next e (take (8 * n) m ++ xor_blocks pending subkey) n, block, before) refl
