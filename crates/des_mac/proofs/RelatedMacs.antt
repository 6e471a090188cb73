-- What the MACs are by a relation of blocks whose graph is known: the relation holds of the tag, and of no other.
use Rattle.std.proofs.Common.{◌≡◌, ℕ, zero, suc, ◌+◌, ◌-◌, ◌*◌, ◌/◌, ◌<◌, ◌≤◌, List, [], ◌∷◌, length, drop, get_or, refl, sym, ap, ◌∙◌, arith, length-drop}
use Rattle.std.specs.Simd.{first_chunks}
use Rattle.std.proofs.lemmas.List.{length-take-le}
use Rattle.std.proofs.lemmas.List.Elements.{All-take, All-drop, All-replicate}
use Rattle.des.specs.Blocks.{AreBytes, IsBlock}
use Rattle.des.specs.Cbc.{xor_blocks, block_at, block_before, CbcUnder}
use Rattle.des.specs.Relations.{IsGraphOf, IsTheOne}
use Rattle.des.proofs.XoredBlocks.{IsBlock-xor_blocks}
use Rattle.des.proofs.ChainedBlocks.{block_before-next}
use Rattle.des_mac.specs.CbcMac.{zero_block, block_after, chain_after, cbc_mac}
use Rattle.des_mac.specs.MacRelations.{blocks_of, IsCbcMac}
use Rattle.des.proofs.KeyParts.{get_or-first_chunks}

pub IsBlock-zero_block : IsBlock zero_block
IsBlock-zero_block = (refl, All-replicate (λ byte. byte < 256) 8 0 (omega arith))

IsBlock-block_after : (m : List ℕ) (n : ℕ) → AreBytes m → 8 * n + 8 ≤ length m → IsBlock (block_after m n)
IsBlock-block_after m n bytes fits = (
  length-take-le 8 (drop (8 * n) m) (omega (arith, length-drop (8 * n) m)),
  All-take (λ byte. byte < 256) 8 (drop (8 * n) m) (All-drop (λ byte. byte < 256) (8 * n) m bytes),
)

length-first_chunks : (k : ℕ) (m : List ℕ) → length (first_chunks 8 k m) ≡ k
length-first_chunks zero m = refl
length-first_chunks (suc k) m = ap suc (length-first_chunks k (drop 8 m))

module _ (e : List ℕ → List ℕ) (Relates : List ℕ → List ℕ → Type 0) (graph : IsGraphOf e Relates) (m : List ℕ) where
  -- block n of the bytes
  block_at-blocks_of : (n : ℕ) → n < length m / 8 → block_at (blocks_of m) (n + 1) ≡ block_after m n
  block_at-blocks_of n within =
      ap (λ (i : ℕ). get_or (blocks_of m) i []) (omega arith) ∙ get_or-first_chunks (length m / 8) n m within

  -- blocks that the relation chains are the chain
  chain_after-chained : (chain : List (List ℕ)) → CbcUnder Relates zero_block (blocks_of m) chain → (n : ℕ)
      → n ≤ length m / 8 → chain_after e m n ≡ block_before zero_block chain (n + 1)
  unfolding chain_after
  chain_after-chained chain chains zero fits = refl
  chain_after-chained chain chains (suc n) fits =
      let count : length (blocks_of m) ≡ length m / 8 = length-first_chunks (length m / 8) m in
      let before = chain_after-chained chain chains n (omega arith) in
      let related = chains.chained (n + 1) (omega arith) (omega arith) in
      let answer = ((graph _ _).0 related).1 in
      let one : n + 1 ≡ suc n = omega arith in
      ap (λ (block : List ℕ). e (xor_blocks block (chain_after e m n))) (sym (block_at-blocks_of n (omega arith)))
      ∙ ap (λ (last : List ℕ). e (xor_blocks (block_at (blocks_of m) (n + 1)) last)) before
      ∙ answer
      ∙ sym (block_before-next zero_block chain (n + 1) (omega arith))
      ∙ ap (λ (k : ℕ). block_before zero_block chain (k + 1)) one

  -- so no other tag is related
  pub cbc_mac-related : (tag : List ℕ) → 8 ≤ length m → IsCbcMac Relates m tag → tag ≡ cbc_mac e m
  unfolding cbc_mac
  cbc_mac-related tag some is =
      is.ends
      ∙ sym (block_before-next zero_block is.chain (length m / 8) (omega arith))
      ∙ sym (chain_after-chained is.chain is.chained (length m / 8) (omega arith))

  -- the chain as a list, of the blocks after the first n
  chain_list : ℕ → ℕ → List (List ℕ)
  chain_list n zero = []
  chain_list n (suc k) = chain_after e m (suc n) ∷ chain_list (suc n) k

  length-chain_list : (n k : ℕ) → length (chain_list n k) ≡ k
  unfolding chain_list
  length-chain_list n zero = refl
  length-chain_list n (suc k) = ap suc (length-chain_list (suc n) k)

  get_or-chain_list : (n k i : ℕ) → i < k → get_or (chain_list n k) i [] ≡ chain_after e m (suc (n + i))
  unfolding chain_list
  get_or-chain_list n zero i within = absurd (omega arith)
  get_or-chain_list n (suc k) zero within = ap (λ (j : ℕ). chain_after e m (suc j)) (omega arith)
  get_or-chain_list n (suc k) (suc i) within =
      get_or-chain_list (suc n) k i (omega arith) ∙ ap (λ (j : ℕ). chain_after e m (suc j)) (omega arith)

  -- the block at each place of it, and the block before
  chain : List (List ℕ)
  chain = chain_list 0 (length m / 8)

  get_or-chain : (i : ℕ) → i < length m / 8 → get_or chain i [] ≡ chain_after e m (suc i)
  unfolding chain
  get_or-chain i within =
      get_or-chain_list 0 (length m / 8) i within ∙ ap (λ (j : ℕ). chain_after e m (suc j)) (omega arith)

  get_or-before : (i : ℕ) → i < length m / 8 → get_or (zero_block ∷ chain) i [] ≡ chain_after e m i
  unfolding chain_after
  get_or-before zero within = refl
  get_or-before (suc i) within = get_or-chain i (omega arith)

  module _ (bytes : AreBytes m) (makes_blocks : (block : List ℕ) → IsBlock block → IsBlock (e block)) where
    IsBlock-chain_after : (n : ℕ) → n ≤ length m / 8 → IsBlock (chain_after e m n)
    unfolding chain_after
    IsBlock-chain_after zero fits = IsBlock-zero_block
    IsBlock-chain_after (suc n) fits =
        makes_blocks _ (IsBlock-xor_blocks _ _ (IsBlock-block_after m n bytes (omega arith))
        (IsBlock-chain_after n (omega arith)))

    relates_next : (n : ℕ) → n < length m / 8
        → Relates (xor_blocks (block_after m n) (chain_after e m n)) (chain_after e m (suc n))
    unfolding chain_after
    relates_next n within =
        (graph _ _).1 (
          IsBlock-xor_blocks _ _ (IsBlock-block_after m n bytes (omega arith))
              (IsBlock-chain_after n (omega arith)),
          refl,
        )

    related_at : (n : ℕ) → 1 ≤ n → n ≤ length m / 8
        → Relates (xor_blocks (block_at (blocks_of m) n) (block_before zero_block chain n)) (block_at chain n)
    related_at zero from to = absurd (omega arith)
    related_at (suc n) from to =
        let this : suc n - 1 ≡ n = omega arith in
        rw (
          this,
          get_or-first_chunks (length m / 8) n m (omega arith),
          get_or-before n (omega arith),
          get_or-chain n (omega arith),
        ) (relates_next n (omega arith))

    width_at : (n : ℕ) → 1 ≤ n → n ≤ length m / 8 → length (block_at (blocks_of m) n) ≡ 8
    width_at n from to =
        ap length (get_or-first_chunks (length m / 8) (n - 1) m (omega arith))
        ∙ (IsBlock-block_after m (n - 1) bytes (omega arith)).0

    -- the tag is related
    pub cbc_mac-relates : 8 ≤ length m → IsCbcMac Relates m (cbc_mac e m)
    unfolding cbc_mac chain
    cbc_mac-relates some =
        let blocks : length (blocks_of m) ≡ length m / 8 = length-first_chunks (length m / 8) m in
        let last : suc (length m / 8 - 1) ≡ length m / 8 = omega arith in
        record {
          chain = chain;
          chained = record {
            count = length-chain_list 0 (length m / 8) ∙ sym blocks;
            widths = λ n from to. width_at n from (omega arith);
            chained = λ n from to. related_at n from (omega arith);
          };
          ends = ap (chain_after e m) (sym last) ∙ sym (get_or-chain (length m / 8 - 1) (omega arith));
        }

    -- and no other is
    pub IsTheOne-cbc_mac : (tag : List ℕ) → 8 ≤ length m → tag ≡ cbc_mac e m → IsTheOne (IsCbcMac Relates m) tag
    IsTheOne-cbc_mac tag some same =
        rw same (cbc_mac-relates some, λ other is. cbc_mac-related other some is)

    -- it is a block
    pub IsBlock-cbc_mac : IsBlock (cbc_mac e m)
    unfolding cbc_mac
    IsBlock-cbc_mac = IsBlock-chain_after (length m / 8) (omega arith)
