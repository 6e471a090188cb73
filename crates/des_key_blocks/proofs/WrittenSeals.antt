-- What is written after a front is sealed there.
use Rattle.std.proofs.Common.{◌≡◌, ℕ, ◌*◌, ◌/◌, ◌%◌, List, ◌++◌, length, take, refl, sym, ap, ◌∙◌, subst, arith}
use Rattle.std.specs.List.{All}
use Rattle.std.proofs.lemmas.List.{take_all}
use Rattle.std.proofs.lemmas.List.Elements.{All-take}
use Rattle.des.specs.Blocks.{AreBytes, IsBlock}
use Rattle.des.specs.Cbc.{Cbc}
use Rattle.des.specs.TripleCiphers.{ede3_encryption}
use Rattle.des_key_blocks.specs.Hex.{hex_of}
use Rattle.des_key_blocks.specs.KeyBlocks.{joined, tag_of, mac_size, vector_of, IsSealed}
use Rattle.des_key_blocks.specs.ProtectionKeys.{encryption_key, mac_key}
use Rattle.des_key_blocks.specs.declared.key_block_header.Version.{Version}
use Rattle.des_key_blocks.specs.declared.key_block_header.Version.TheVariants.{A, B, C}
use Rattle.des_key_blocks.proofs.JoinedBlocks.{eight-blocks, take-joined, AreBytes-joined}

-- the vector is that of the MAC
vector-cut : (version : Version) (front tag : List ℕ) → length tag ≡ 8
    → vector_of version front tag ≡ vector_of version front (take (mac_size version) tag)
vector-cut A front tag eight = refl
vector-cut B front tag eight = sym (take_all 8 tag (omega arith))
vector-cut C front tag eight = refl

module _ (version : Version) (protection front clear text : List ℕ) (blocks sealed : List (List ℕ)) where
  pub sealed-written : (bytes tag encryption mac : List ℕ) (n size : ℕ) → All IsBlock blocks → joined blocks ≡ bytes
      → size % 8 ≡ 0 → n ≡ size / 8 → take size bytes ≡ clear → length tag ≡ 8
      → encryption ≡ encryption_key version protection → mac ≡ mac_key version protection
      → tag ≡ tag_of version mac front (joined (take n blocks)) (joined sealed)
      → Cbc (ede3_encryption encryption) (vector_of version front tag) (take n blocks) sealed
      → text ≡ hex_of (joined sealed) ++ hex_of (take (mac_size version) tag)
      → IsSealed version protection front clear text
  sealed-written bytes tag encryption mac n size are is whole count cut eight is_encryption is_mac tagged chained
      written =
      let twice : 8 * n ≡ size = omega arith in
      let same : joined (take n blocks) ≡ clear =
      sym (take-joined n blocks (eight-blocks blocks are)) ∙ ap (λ k. take k (joined blocks)) twice
      ∙ ap (take size) is ∙ cut in
      record {
        blocks = take n blocks;
        encrypted = sealed;
        mac = take (mac_size version) tag;
        are_bytes = subst AreBytes same (AreBytes-joined (take n blocks) (All-take IsBlock n blocks are));
        is_clear = same;
        is_mac = ap (take (mac_size version)) (tagged
            ∙ ap (λ (k : List ℕ). tag_of version k front (joined (take n blocks)) (joined sealed)) is_mac
            ∙ ap (λ (c : List ℕ). tag_of version (mac_key version protection) front c (joined sealed)) same);
        chained = subst (λ (v : List ℕ). Cbc (ede3_encryption (encryption_key version protection)) v (take n blocks)
            sealed) (vector-cut version front tag eight)
            (subst (λ (k : List ℕ). Cbc (ede3_encryption k) (vector_of version front tag) (take n blocks) sealed)
            is_encryption chained);
        is_text = written;
      }
