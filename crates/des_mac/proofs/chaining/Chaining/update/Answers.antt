use Rattle.std.proofs.Common.{◌≡◌, ◌+◌, ℕ, ◌++◌, length, ◌-◌, ◌*◌, arith, length-append, ◌∙◌, sym}
use Rattle.std.proofs.lemmas.List.{take-append-drop}
use Rattle.des_mac.specs.Padding.{block_count}
use Rattle.des_mac.proofs.Absorbing.{Absorbed-pending, Absorbed-rest, chain_after-filled, block_after-rest}
use Rattle.des_mac.proofs.chaining.Chaining.update.Goals as goal

-- the bytes fit
pub returns-then-bytes-space-clause-holds : goal.returns-then-bytes-space-clause-holds
returns-then-bytes-space-clause-holds g c = λ key m holds.
    let bytes = c.args.bytes.now in
    let state = holds.absorbed in
    let long : length (m ++ bytes) ≡ length m + length bytes = length-append m bytes in
    let same : block_count (length (m ++ bytes)) - 1 ≡ block_count (length m) - 1 = omega (arith, state.counted) in
    record {
      is_key = holds.is_key;
      made = rw c.hold.ensures.cipher holds.made;
      absorbed = rw (same, c.hold.ensures.chain)
          (Absorbed-pending _ _ _ _ _ m bytes _ _ state (c.hold.ensures.width ∙ state.width) c.hold.ensures.count
          c.hold.ensures.pending);
    }

-- their head fills the pending block, their last block is pending, and those between them are chained
pub returns-clause-holds : goal.returns-clause-holds
returns-clause-holds g c = λ key m holds.
    let e = g.C.KeyedCipher.encryption key in
    let n : ℕ = block_count (length m) - 1 in
    let bytes = c.args.bytes.now in
    let head = c.split_at.result.0.now in
    let rest = c.split_at.result.1.now in
    let whole = c.split_at-2.result.0.now in
    let last = c.split_at-2.result.1.now in
    let blocks = c.as_chunks.result.0.now in
    let state = holds.absorbed in
    let head_long : length head ≡ 8 - c.args.self.now.count = c.split_at.ensures.front_len in
    let filled : length (m ++ head) ≡ 8 * (n + 1) = omega (arith, state.counted, length-append m head) in
    let joined : head ++ rest ≡ bytes =
    rw (c.split_at.ensures.front, c.split_at.ensures.back) (take-append-drop _ bytes) in
    let cut : whole ++ last ≡ rest =
    rw (c.split_at-2.ensures.front, c.split_at-2.ensures.back) (take-append-drop _ rest) in
    let full : c.hold-2.new.self.count ≡ 8 = omega (arith, c.hold-2.ensures.count) in
    let width : length c.hold-2.new.self.pending ≡ 8 = c.hold-2.ensures.width ∙ state.width in
    let first =
    Absorbed-pending e n _ _ _ m head c.hold-2.new.self.pending c.hold-2.new.self.count state width c.hold-2.ensures.count
    c.hold-2.ensures.pending in
    let made = rw (sym c.hold-2.ensures.cipher) at holds.made in
    let begun = rw c.hold-2.ensures.chain at (c.chain_block.ensures key holds.is_key made) in
    let chain = begun ∙ chain_after-filled e n m head rest bytes joined filled _ _ (rw full at first) in
    let between = c.chain_blocks.ensures key holds.is_key made (m ++ bytes) (n + 1)
    (λ i within. block_after-rest e n m head rest bytes joined filled whole last cut blocks c.as_chunks.ensures.front i
    (omega (arith, c.as_chunks.ensures.front_len))) chain in
    let whole_long : length whole ≡ 8 * length blocks =
    omega (arith, c.as_chunks.ensures.front_len, c.split_at-2.ensures.front_len) in
    let rest_long : length rest + (8 - c.args.self.now.count) ≡ length bytes = c.split_at.ensures.back_len in
    let all_long : length (m ++ bytes) ≡ length m + length bytes = length-append m bytes in
    let same : block_count (length (m ++ bytes)) - 1 ≡ n + 1 + length blocks =
    omega (arith, state.counted, c.as_chunks.ensures.front_len, c.split_at-2.ensures.front_len) in
    record {
      is_key = holds.is_key;
      made = rw (c.hold-3.ensures.cipher, c.hold-2.ensures.cipher) holds.made;
      absorbed = rw (same, c.hold-3.ensures.chain)
          (Absorbed-rest e n m head rest bytes joined filled whole last cut _ _ _ (length blocks)
          (c.hold-3.ensures.width ∙ width)
          whole_long (omega (arith, c.hold-3.ensures.count)) c.hold-3.ensures.pending between);
    }
