use Rattle.std.proofs.Common.{rules, ◌≡◌, ℕ, ◌<◌, List, length, take, get_or, Fits, w8, not, true, sym, ap, ◌∙◌, subst, arith}
use Rattle.std.specs.Prelude.{is_ok}
use Rattle.std.proofs.Math.Facts.{Fits-lt-pow}
use Rattle.std.proofs.lemmas.List.{length-take}
use Rattle.std.proofs.lemmas.List.Elements.{All-from_get_or}
use Rattle.des.specs.Blocks.{AreBytes}
use Rattle.des_key_blocks.specs.KeyBlocks.{joined, key_data, mac_size, tag_of, IsSealed}
use Rattle.des_key_blocks.specs.ProtectionKeys.{mac_key}
use Rattle.des_key_blocks.proofs.JoinedBlocks.{eight-blocks, length-joined}
use Rattle.des_key_blocks.proofs.KeyDataLengths.{key-data-lengths}
use Rattle.des_key_blocks.proofs.SealedKeys.{key-opened, key-fault}
use Rattle.des_key_blocks.proofs.SealedOnce.{IsOpened, opened-read, opened-digits, sealed-digits, opened-sealed, sealed-opened}
use Rattle.des_key_blocks.proofs.key_blocks.sealed_key.Goals as goal
use Rattle.des_key_blocks.proofs.key_blocks.sealed_key.Goals.{After-are_blocks}

-- what was read and opened
abbrev Opened : After-are_blocks → Type 0
Opened c =
    IsOpened c.args.version c.args.protection.now c.args.front.now c.args.text.now
    (take c.mac_size.result c.in-Some.sealed.mac) c.unseal-verdict.new.blocks
    (take c.in-Some.sealed.count c.in-Some.sealed.blocks)

opened : (c : After-are_blocks) → AreBytes c.args.front.now → Opened c
opened c bytes =
    opened-read c.args.version c.args.protection.now c.args.front.now c.args.text.now c.in-Some.sealed.mac
    c.protection_keys-keys.result.encryption c.in-Some.sealed.count c.mac_size.result c.unseal-verdict.new.blocks
    c.in-Some.sealed.blocks bytes c.requires.some c.are_blocks.ensures c.in-Some.ensures.blocks c.in-Some.ensures.mac
    (search rules) c.mac_size.ensures c.in-Some.ensures.text c.protection_keys-keys.ensures.encryption
    c.unseal-verdict.ensures.chained

-- the MAC is that of what was opened exactly if `unseal` says so
abbrev IsMac : After-are_blocks → Type 0
IsMac c =
    take c.mac_size.result c.in-Some.sealed.mac
    ≡ take (mac_size c.args.version) (tag_of c.args.version (mac_key c.args.version c.args.protection.now)
    c.args.front.now (joined c.unseal-verdict.new.blocks)
    (joined (take c.in-Some.sealed.count c.in-Some.sealed.blocks)))

tagged : (c : After-are_blocks) → List ℕ → List ℕ
tagged c key =
    take (mac_size c.args.version) (tag_of c.args.version key c.args.front.now (joined c.unseal-verdict.new.blocks)
    (joined (take c.in-Some.sealed.count c.in-Some.sealed.blocks)))

mac-ok : (c : After-are_blocks) → IsMac c → is_ok c.unseal-verdict.result ≡ true
unfolding tagged
mac-ok c is = c.unseal-verdict.ensures.mac.1 (is ∙ ap (tagged c) (sym c.protection_keys-keys.ensures.mac))

ok-mac : (c : After-are_blocks) → is_ok c.unseal-verdict.result ≡ true → IsMac c
unfolding tagged
ok-mac c ok = c.unseal-verdict.ensures.mac.0 ok ∙ ap (tagged c) c.protection_keys-keys.ensures.mac

-- what is sealed was opened, and its MAC was found
found : (c : After-are_blocks) → AreBytes c.args.front.now → (clear : List ℕ)
    → IsSealed c.args.version c.args.protection.now c.args.front.now clear c.args.text.now
    → (clear ≡ joined c.unseal-verdict.new.blocks) × (is_ok c.unseal-verdict.result ≡ true)
found c bytes clear sealed =
    let same = opened-sealed c.args.version c.args.protection.now c.args.front.now c.args.text.now
    (take c.mac_size.result c.in-Some.sealed.mac) c.unseal-verdict.new.blocks
    (take c.in-Some.sealed.count c.in-Some.sealed.blocks) (opened c bytes) clear sealed in
    (same.0, mac-ok c same.1)

-- if the MAC was found, what was opened is sealed
are-sealed : (c : After-are_blocks) → AreBytes c.args.front.now → is_ok c.unseal-verdict.result ≡ true
    → IsSealed c.args.version c.args.protection.now c.args.front.now (joined c.unseal-verdict.new.blocks) c.args.text.now
are-sealed c bytes ok =
    sealed-opened c.args.version c.args.protection.now c.args.front.now c.args.text.now
    (take c.mac_size.result c.in-Some.sealed.mac) c.unseal-verdict.new.blocks
    (take c.in-Some.sealed.count c.in-Some.sealed.blocks) (opened c bytes) (ok-mac c ok)

front-bytes : (front : List ℕ) → ((i : ℕ) → Fits w8 (get_or front i 0)) → AreBytes front
front-bytes front fits = All-from_get_or (λ byte. byte < 256) front 0 (λ i within. Fits-lt-pow (fits i))

pub returns-in-None-clause-only : goal.returns-in-None-clause-only
returns-in-None-clause-only c = λ key padding is sealed.
    absurd (c.in-None.ensures.none (sealed-digits c.args.version c.args.protection.now c.args.front.now
    (key_data key padding) c.args.text.now sealed))

pub returns-then-is_err-clause-only : goal.returns-then-is_err-clause-only
returns-then-is_err-clause-only c = λ key padding is sealed.
    let opening : After-are_blocks = (goal.at.returns-then-is_err-clause-only c).After-are_blocks in
    let ok = (found opening (front-bytes c.args.front.now c.type_inv.front) (key_data key padding) sealed).1 in
    absurd (cc (ok, c.if-is_err.ensures.negation))

pub returns-then-is_err-clause-fault : goal.returns-then-is_err-clause-fault
returns-then-is_err-clause-fault c =
    let opening : After-are_blocks = (goal.at.returns-then-is_err-clause-fault c).After-are_blocks in
    let bytes : AreBytes c.args.front.now = front-bytes c.args.front.now c.type_inv.front in (
      opened-digits c.args.version c.args.protection.now c.args.front.now c.args.text.now _ _ _ (opened opening bytes),
      λ clear sealed. let ok = (found opening bytes clear sealed).1 in cc (ok, c.if-is_err.ensures.negation),
    )

pub returns-clause-opened : goal.returns-clause-opened
returns-clause-opened c =
    let opening : After-are_blocks = (goal.at.returns-clause-opened c).After-are_blocks in
    let bytes : AreBytes c.args.front.now = front-bytes c.args.front.now c.type_inv.front in
    let blocks : List (List ℕ) = c.unseal-verdict.new.blocks in
    let flat : List ℕ = c.as_flattened.result.now in
    let same : flat ≡ joined blocks = c.as_flattened.ensures.value in
    let sealed = are-sealed opening bytes (c.is_err.ensures.negation ∙ ap not c.if-is_err.false) in
    key-opened c.args.version c.args.protection.now c.args.front.now c.args.text.now flat
    (subst (λ (clear : List ℕ). IsSealed c.args.version c.args.protection.now c.args.front.now clear c.args.text.now)
    (sym same) sealed)
    c.key_of.result (length blocks)
    (ap length same ∙ length-joined blocks (eight-blocks blocks c.are_blocks.ensures))
    (omega (
      arith,
      c.unseal-verdict.ensures.chained.count,
      length-take c.in-Some.sealed.count c.in-Some.sealed.blocks,
      c.in-Some.ensures.some.1,
    ))
    c.key_of.ensures.opened

pub returns-clause-only : goal.returns-clause-only
returns-clause-only c = λ key padding is sealed.
    let opening : After-are_blocks = (goal.at.returns-clause-only c).After-are_blocks in
    let bytes : AreBytes c.args.front.now = front-bytes c.args.front.now c.type_inv.front in
    let same = (found opening bytes (key_data key padding) sealed).0 in
    c.key_of.ensures.only key padding (key-data-lengths key padding is).is_key_there
    (c.as_flattened.ensures.value ∙ sym same)

pub returns-clause-fault : goal.returns-clause-fault
returns-clause-fault c =
    let opening : After-are_blocks = (goal.at.returns-clause-fault c).After-are_blocks in
    let bytes : AreBytes c.args.front.now = front-bytes c.args.front.now c.type_inv.front in
    let flat : List ℕ = c.as_flattened.result.now in
    let same : flat ≡ joined c.unseal-verdict.new.blocks = c.as_flattened.ensures.value in
    let sealed = are-sealed opening bytes (c.is_err.ensures.negation ∙ ap not c.if-is_err.false) in
    key-fault c.args.version c.args.protection.now c.args.front.now c.args.text.now flat
    (subst (λ (clear : List ℕ). IsSealed c.args.version c.args.protection.now c.args.front.now clear c.args.text.now)
    (sym same) sealed)
    c.key_of.result c.key_of.ensures.fault c.key_of.ensures.only
