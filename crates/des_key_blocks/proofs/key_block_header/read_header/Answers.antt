use Rattle.std.proofs.Common.{◌≡◌, ℕ, ◌≤◌, List, ◌==◌, ◌&&◌, Bool, true, false, length, take, slice_index, Some, refl, sym, ap, ◌∙◌, arith, rules}
use Rattle.std.specs.Char.{is_ascii_digit}
use Rattle.std.specs.Cmp.Derive.{both_true}
use Rattle.std.proofs.lemmas.Bool.{le-leb, ne_eqb}
use Rattle.des_key_blocks.specs.declared.key_block_header.KeyContext.{KeyContext}
use Rattle.des_key_blocks.specs.declared.key_block_header.KeyContext.TheVariants.{StorageOrExchange, Storage, Exchange}
use Rattle.des_key_blocks.specs.declared.key_block_header.Version.{Version}
use Rattle.des_key_blocks.specs.declared.key_block_header.Version.TheVariants.{A, B, C}
use Rattle.des_key_blocks.specs.declared.key_block_error.KeyBlockError.TheVariants.{Version as VersionFault}
use Rattle.des_key_blocks.specs.KeyBlockHeaders.{version_text, context_text, decimal_at, header_text, says_length, is_long, is_context, header_fault}
use Rattle.des_key_blocks.proofs.HeaderTexts.{header-read, header-same, header-count}
use Rattle.des_key_blocks.proofs.key_block_header.read_header.Goals as goal

-- a block as long as it says that has no version
version-fault : (block : List ℕ) → 16 ≤ length block → length block ≤ 9999 → says_length block ≡ true
    → ((version : Version) → version_text version ≡ slice_index block 0 → ⊥)
    → Some VersionFault ≡ header_fault block
version-fault block least most says none =
    let long : is_long block ≡ true =
    both_true (both_true (le-leb 16 (length block) least) (le-leb (length block) 9999 most)) says in
    let a : (slice_index block 0 == 65) ≡ false = ne_eqb (slice_index block 0) 65 (λ is. none A (sym is)) in
    let b : (slice_index block 0 == 66) ≡ false = ne_eqb (slice_index block 0) 66 (λ is. none B (sym is)) in
    let d : (slice_index block 0 == 67) ≡ false = ne_eqb (slice_index block 0) 67 (λ is. none C (sym is)) in
    rw (long, a, b, d) refl

pub returns-in-None-clause-fault : goal.returns-in-None-clause-fault
returns-in-None-clause-fault c =
    version-fault c.args.block.now (omega arith) (omega arith) (search rules) c.in-None.ensures.none

-- numbers that four tests find equal
four-same : (a b c d a' b' c' d' : ℕ) → (a == a' && b == b' && c == c' && d == d') ≡ true
    → (a' ≡ a) × (b' ≡ b) × (c' ≡ c) × (d' ≡ d)
four-same a b c d a' b' c' d' same = (grind arith, grind arith, grind arith, grind arith)

last-same : (p q r : Bool) (c c' : ℕ) → (p && q && r && c == c') ≡ true → c ≡ c'
last-same p q r c c' same = grind arith

-- a context has a character that is one's
context-is : (context : KeyContext) → is_context (context_text context) ≡ true
context-is StorageOrExchange = refl
context-is Storage = refl
context-is Exchange = refl

-- the block begins with the header that was read
begins : (c : goal.After-fields_of)
    → header_text c.fields_of.result c.in-Some-ending_of.context (length c.args.block.now) c.in-Some-ending_of.count
    ≡ take 16 c.args.block.now
begins c =
    let block : List ℕ = c.args.block.now in
    let at : ℕ → ℕ = λ place. slice_index block place in
    let size : ℕ = length block in
    let says : says_length block ≡ true = search rules in
    let digits = four-same (at 1) (at 2) (at 3) (at 4) (decimal_at 1000 size) (decimal_at 100 size)
    (decimal_at 10 size) (decimal_at 1 size) says in
    let last = last-same (is_ascii_digit (at 12)) (is_ascii_digit (at 13)) (is_context (at 14)) (at 15) 48
    (sym c.in-Some-ending_of.ensures.some) in
    let fields = c.fields_of.ensures in
    header-read c.fields_of.result c.in-Some-ending_of.context c.in-Some-ending_of.count block (record {
      least = omega arith;
      version = ap version_text fields.version ∙ c.in-Some.ensures.some;
      first = digits.0;
      second = digits.1;
      third = digits.2;
      fourth = digits.3;
      usage = fields.usage;
      algorithm = fields.algorithm;
      mode = fields.mode;
      key_version = fields.key_version;
      exportability = fields.exportability;
      tens = c.in-Some-ending_of.ensures.tens;
      ones = c.in-Some-ending_of.ensures.ones;
      context_there = c.in-Some-ending_of.ensures.context;
      last = last;
    })

pub returns-in-Some-ending_of-clause-is_header : goal.returns-in-Some-ending_of-clause-is_header
returns-in-Some-ending_of-clause-is_header c =
    (ap length c.fields_of.ensures.usage, ap length c.fields_of.ensures.key_version)

pub returns-in-Some-ending_of-clause-text : goal.returns-in-Some-ending_of-clause-text
returns-in-Some-ending_of-clause-text c = begins c

pub returns-in-Some-ending_of-clause-only : goal.returns-in-Some-ending_of-clause-only
returns-in-Some-ending_of-clause-only c = λ header context count least short few same.
    header-same c.fields_of.result header c.in-Some-ending_of.context context (length c.args.block.now) c.in-Some-ending_of.count count
    c.in-Some-ending_of.ensures.few few (begins c ∙ sym same)

pub returns-in-None-ending_of-clause-only : goal.returns-in-None-ending_of-clause-only
returns-in-None-ending_of-clause-only c = λ header context count least short few same.
    absurd (grind (
      arith,
      header-count header context count c.args.block.now least same,
      context-is context,
      c.in-None-ending_of.ensures.some,
    ))
