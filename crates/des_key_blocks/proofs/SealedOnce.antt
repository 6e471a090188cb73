-- What is opened after the front of a block is what was sealed there, both ways.
use Rattle.std.proofs.Common.{◌≡◌, ℕ, ◌+◌, ◌-◌, ◌<◌, ◌≤◌, List, [], ◌++◌, length, take, drop, get_or, refl, sym, ap, ap₂, ◌∙◌, subst, arith}
use Rattle.std.specs.List.{All}
use Rattle.std.proofs.lemmas.List.{length-append, length-take, take_at, drop_at, get_or_default}
use Rattle.std.proofs.lemmas.List.Elements.{All-take, All-append}
use Rattle.des.specs.Blocks.{AreBytes, IsBlock}
use Rattle.des.specs.Cbc.{Cbc}
use Rattle.des.specs.TripleCiphers.{ede3_encryption}
use Rattle.des_key_blocks.specs.Hex.{hex_of}
use Rattle.des_key_blocks.specs.KeyBlocks.{joined, tag_of, mac_size, vector_of, IsSealed}
use Rattle.des_key_blocks.specs.KeyBlockReading.{AreHexDigits}
use Rattle.des_key_blocks.specs.ProtectionKeys.{encryption_key, mac_key}
use Rattle.des_key_blocks.specs.declared.key_block_header.Version.{Version}
use Rattle.des_key_blocks.specs.declared.key_block_header.Version.TheVariants.{A, B, C}
use Rattle.des_key_blocks.proofs.CbcOnce.{IsBlock-cbc, plaintext-once}
use Rattle.des_key_blocks.proofs.HexBytes.{length-hex_of}
use Rattle.des_key_blocks.proofs.HexTexts.{hex_of-append, hex_of-injective}
use Rattle.des_key_blocks.proofs.JoinedBlocks.{IsEight, eight-blocks, joined-injective, IsBlock-joined, AreBytes-joined}
use Rattle.des_key_blocks.proofs.TagBlocks.{IsBlock-tag_of, length-mac, AreBytes-mac}

-- what stands in a text after a front, encrypted and decrypted
pub record IsOpened (version : Version) (protection front text mac : List ℕ) (p q : List (List ℕ)) : Type 0 where
  pub front_bytes : AreBytes front
  pub front_length : 8 ≤ length front
  pub are_clear : All IsBlock p
  pub are_encrypted : All IsBlock q
  pub mac_bytes : AreBytes mac
  pub mac_length : length mac ≡ mac_size version
  pub is_text : text ≡ hex_of (joined q) ++ hex_of mac
  pub chained : Cbc (ede3_encryption (encryption_key version protection)) (vector_of version front mac) p q

-- that of blocks and a MAC that were read, and of the key that encrypts
pub opened-read : (version : Version) (protection front text tail key : List ℕ) (n size : ℕ) (p blocks : List (List ℕ))
    → AreBytes front → 8 ≤ length front → All IsBlock p → All IsBlock blocks → AreBytes tail → length tail ≡ 8
    → size ≡ mac_size version → text ≡ hex_of (joined (take n blocks)) ++ hex_of (take (mac_size version) tail)
    → key ≡ encryption_key version protection
    → Cbc (ede3_encryption key) (vector_of version front (take size tail)) p (take n blocks)
    → IsOpened version protection front text (take size tail) p (take n blocks)
opened-read version protection front text tail key n size p blocks front_bytes least clear encrypted bytes eight count
    is is_key chained = record {
      front_bytes = front_bytes;
      front_length = least;
      are_clear = clear;
      are_encrypted = All-take IsBlock n blocks encrypted;
      mac_bytes = All-take (λ number. number < 256) size tail bytes;
      mac_length = ap (λ m. length (take m tail)) count ∙ length-mac version tail eight;
      is_text = is ∙ ap (λ m. hex_of (joined (take n blocks)) ++ hex_of (take m tail)) (sym count);
      chained = subst (λ (k : List ℕ). Cbc (ede3_encryption k) (vector_of version front (take size tail)) p
          (take n blocks)) is_key chained;
    }

-- its vector is a block
IsBlock-vector_of : (version : Version) (front mac : List ℕ) → AreBytes front → 8 ≤ length front → AreBytes mac
    → length mac ≡ mac_size version → IsBlock (vector_of version front mac)
IsBlock-vector_of A front mac bytes least mac_bytes count =
    (omega (arith, length-take 8 front), All-take (λ number. number < 256) 8 front bytes)
IsBlock-vector_of B front mac bytes least mac_bytes count = (count, mac_bytes)
IsBlock-vector_of C front mac bytes least mac_bytes count =
    (omega (arith, length-take 8 front), All-take (λ number. number < 256) 8 front bytes)

module _ (version : Version) (protection front clear text : List ℕ)
    (sealed : IsSealed version protection front clear text) where
  abbrev tag : List ℕ
  tag = tag_of version (mac_key version protection) front clear (joined sealed.encrypted)

  tag_is_block : IsBlock tag
  tag_is_block = IsBlock-tag_of version (mac_key version protection) front clear (joined sealed.encrypted)

  pub sealed_mac-length : length sealed.mac ≡ mac_size version
  sealed_mac-length = ap length sealed.is_mac ∙ length-mac version tag tag_is_block.0

  pub sealed_mac-bytes : AreBytes sealed.mac
  sealed_mac-bytes = subst AreBytes (sym sealed.is_mac) (AreBytes-mac version tag tag_is_block.1)

  pub sealed-encrypted : All IsBlock sealed.encrypted
  sealed-encrypted =
      IsBlock-cbc (encryption_key version protection) (vector_of version front sealed.mac) sealed.blocks
      sealed.encrypted sealed.chained

  pub sealed-eight : All IsEight sealed.blocks
  sealed-eight = λ k d within.
      let this : k + 1 - 1 ≡ k = omega arith in
      ap length (get_or_default sealed.blocks k d [] within)
      ∙ subst (λ n. length (get_or sealed.blocks n []) ≡ 8) this
      (sealed.chained.widths (k + 1) (omega arith) (omega arith))

  pub sealed-clear : All IsBlock sealed.blocks
  sealed-clear = IsBlock-joined sealed.blocks sealed-eight (subst AreBytes (sym sealed.is_clear) sealed.are_bytes)

  -- it stands in digits
  pub sealed-digits : AreHexDigits text
  sealed-digits = (
    joined sealed.encrypted ++ sealed.mac,
    (
      All-append (λ number. number < 256) (joined sealed.encrypted) sealed.mac
          (AreBytes-joined sealed.encrypted sealed-encrypted) sealed_mac-bytes,
      sealed.is_text ∙ sym (hex_of-append (joined sealed.encrypted) sealed.mac),
    ),
  )

-- two texts of one length end two that are the same
same-ends : (a b c d : List ℕ) → length b ≡ length d → a ++ b ≡ c ++ d → (a ≡ c) × (b ≡ d)
same-ends a b c d long same =
    let fronts : length c ≡ length a =
    omega (arith, ap length same, length-append a b, length-append c d) in (
      sym (take_at a b (length a) refl) ∙ ap (take (length a)) same ∙ take_at c d (length a) fronts,
      sym (drop_at a b (length a) refl) ∙ ap (drop (length a)) same ∙ drop_at c d (length a) fronts,
    )

module _ (version : Version) (protection front text mac : List ℕ) (p q : List (List ℕ))
    (opened : IsOpened version protection front text mac p q) where
  -- if the MAC is that of what was opened, this is sealed
  pub sealed-opened : mac
      ≡ take (mac_size version) (tag_of version (mac_key version protection) front (joined p) (joined q))
      → IsSealed version protection front (joined p) text
  sealed-opened is_mac = record {
    blocks = p;
    encrypted = q;
    mac = mac;
    are_bytes = AreBytes-joined p opened.are_clear;
    is_clear = refl;
    is_mac = is_mac;
    chained = opened.chained;
    is_text = opened.is_text;
  }

  -- it stands in digits
  pub opened-digits : AreHexDigits text
  opened-digits = (
    joined q ++ mac,
    (
      All-append (λ number. number < 256) (joined q) mac (AreBytes-joined q opened.are_encrypted) opened.mac_bytes,
      opened.is_text ∙ sym (hex_of-append (joined q) mac),
    ),
  )

  -- what is sealed was opened, and the MAC is its own
  pub opened-sealed : (clear : List ℕ) → IsSealed version protection front clear text → (clear ≡ joined p)
      × (mac ≡ take (mac_size version) (tag_of version (mac_key version protection) front (joined p) (joined q)))
  opened-sealed clear sealed =
      let other : List ℕ = sealed.mac in
      let r : List (List ℕ) = sealed.encrypted in
      let other_length = sealed_mac-length version protection front clear text sealed in
      let other_bytes = sealed_mac-bytes version protection front clear text sealed in
      let r_blocks = sealed-encrypted version protection front clear text sealed in
      let ends = same-ends (hex_of (joined q)) (hex_of mac) (hex_of (joined r)) (hex_of other)
      (omega (arith, length-hex_of mac, length-hex_of other, opened.mac_length))
      (sym opened.is_text ∙ sealed.is_text) in
      let macs : mac ≡ other = hex_of-injective mac other opened.mac_bytes other_bytes ends.1 in
      let texts : joined q ≡ joined r = hex_of-injective (joined q) (joined r)
      (AreBytes-joined q opened.are_encrypted) (AreBytes-joined r r_blocks) ends.0 in
      let chains : q ≡ r = joined-injective q r (eight-blocks q opened.are_encrypted) (eight-blocks r r_blocks) texts in
      let is_vector = IsBlock-vector_of version front mac opened.front_bytes opened.front_length opened.mac_bytes
      opened.mac_length in
      let IsCbc : List ℕ → List (List ℕ) → Type 0 =
      λ m s. Cbc (ede3_encryption (encryption_key version protection)) (vector_of version front m) sealed.blocks s in
      let moved : IsCbc mac q =
      subst (λ (m : List ℕ). IsCbc m q) (sym macs)
      (subst (λ (s : List (List ℕ)). IsCbc other s) (sym chains) sealed.chained) in
      let clears : p ≡ sealed.blocks = plaintext-once (encryption_key version protection) (vector_of version front mac) p
      sealed.blocks q is_vector opened.are_clear
      (sealed-clear version protection front clear text sealed) opened.chained moved in
      let same : clear ≡ joined p = sym sealed.is_clear ∙ ap joined (sym clears) in (
        same,
        macs ∙ sealed.is_mac
            ∙ ap₂ (λ (c e : List ℕ). take (mac_size version) (tag_of version (mac_key version protection) front c e))
            same (ap joined (sym chains)),
      )
