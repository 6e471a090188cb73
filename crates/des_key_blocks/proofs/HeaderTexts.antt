-- The sixteen characters of a header, as those of its fields.
use Rattle.std.proofs.Common.{◌≡◌, ℕ, zero, suc, ◌+◌, ◌<◌, ◌≤◌, List, [], ◌∷◌, ◌++◌, length, take, drop, get_or, refl, sym, ap, ◌∙◌, arith}
use Rattle.std.proofs.lemmas.List.{drop_more, take_all, take_at, drop_at, length-append, length-take, drop-take}
use Rattle.des_key_blocks.specs.KeyBlockHeaders.{version_text, usage_text, algorithm_text, mode_text, exportability_text, context_text, decimal_at, fields_text, header_text, IsHeader}
use Rattle.des_key_blocks.specs.declared.key_block_header.Header.{Header}
use Rattle.des_key_blocks.specs.declared.key_block_header.KeyContext.{KeyContext}
use Rattle.des_key_blocks.specs.declared.key_block_header.KeyContext.TheVariants.{StorageOrExchange, Storage, Exchange}
use Rattle.des_key_blocks.specs.declared.key_block_header.Version.{Version}
use Rattle.des_key_blocks.specs.declared.key_block_header.Version.TheVariants.{A, B, C}

-- n elements of a list from a place
abbrev elements : List ℕ → ℕ → ℕ → List ℕ
elements xs i zero = []
elements xs i (suc n) = get_or xs i 0 ∷ elements xs (i + 1) n

elements-are : (n i : ℕ) (xs : List ℕ) → i + n ≤ length xs → take n (drop i xs) ≡ elements xs i n
elements-are zero i xs within = refl
elements-are (suc n) i xs within =
    ap (take (suc n)) (drop_more xs i 0 (omega arith))
    ∙ ap (λ (rest : List ℕ). get_or xs i 0 ∷ rest) (elements-are n (i + 1) xs (omega arith))

-- the characters of all fields, one after the other
made : (version d1000 d100 d10 d1 : ℕ) (usage : List ℕ) (algorithm mode : ℕ) (key_version : List ℕ)
    (exportability tens ones context : ℕ) → List ℕ
made version d1000 d100 d10 d1 usage algorithm mode key_version exportability tens ones context =
    version ∷ d1000 ∷ d100 ∷ d10 ∷ d1 ∷ []
    ++ (usage ++ algorithm ∷ mode ∷ [] ++ key_version ++ exportability ∷ []) ++ tens ∷ ones ∷ context ∷ 48 ∷ []

made-same : (a b c d e : ℕ) (f : List ℕ) (g h : ℕ) (i : List ℕ) (j k l m : ℕ) (a' b' c' d' e' : ℕ) (f' : List ℕ)
    (g' h' : ℕ) (i' : List ℕ) (j' k' l' m' : ℕ) → a ≡ a' → b ≡ b' → c ≡ c' → d ≡ d' → e ≡ e' → f ≡ f' → g ≡ g' → h ≡ h' → i ≡ i'
    → j ≡ j' → k ≡ k' → l ≡ l' → m ≡ m' → made a b c d e f g h i j k l m ≡ made a' b' c' d' e' f' g' h' i' j' k' l' m'
made-same a b c d e f g h i j k l m a' b' c' d' e' f' g' h' i' j' k' l' m' aa bb cc' dd ee ff gg hh ii jj kk ll mm = cc

-- what stands in the header of a block
pub record HeaderThere (header : Header) (context : KeyContext) (count : ℕ) (block : List ℕ) : Type 0 where
  pub least : 16 ≤ length block
  pub version : version_text header.version ≡ get_or block 0 0
  pub first : decimal_at 1000 (length block) ≡ get_or block 1 0
  pub second : decimal_at 100 (length block) ≡ get_or block 2 0
  pub third : decimal_at 10 (length block) ≡ get_or block 3 0
  pub fourth : decimal_at 1 (length block) ≡ get_or block 4 0
  pub usage : usage_text header.usage ≡ get_or block 5 0 ∷ get_or block 6 0 ∷ []
  pub algorithm : algorithm_text header.algorithm ≡ get_or block 7 0
  pub mode : mode_text header.mode ≡ get_or block 8 0
  pub key_version : header.key_version ≡ get_or block 9 0 ∷ get_or block 10 0 ∷ []
  pub exportability : exportability_text header.exportability ≡ get_or block 11 0
  pub tens : decimal_at 10 count ≡ get_or block 12 0
  pub ones : decimal_at 1 count ≡ get_or block 13 0
  pub context_there : context_text context ≡ get_or block 14 0
  pub last : get_or block 15 0 ≡ 48

pub header-read : (header : Header) (context : KeyContext) (count : ℕ) (block : List ℕ)
    → HeaderThere header context count block → header_text header context (length block) count ≡ take 16 block
unfolding made
header-read header context count block there =
    let at : ℕ → ℕ = λ place. get_or block place 0 in
    let same = made-same (version_text header.version) (decimal_at 1000 (length block)) (decimal_at 100 (length block))
    (decimal_at 10 (length block)) (decimal_at 1 (length block)) (usage_text header.usage)
    (algorithm_text header.algorithm) (mode_text header.mode) header.key_version
    (exportability_text header.exportability) (decimal_at 10 count) (decimal_at 1 count) (context_text context)
    (at 0) (at 1) (at 2) (at 3) (at 4) (at 5 ∷ at 6 ∷ []) (at 7) (at 8) (at 9 ∷ at 10 ∷ []) (at 11) (at 12) (at 13)
    (at 14)
    there.version there.first there.second there.third there.fourth there.usage there.algorithm there.mode
    there.key_version there.exportability there.tens there.ones there.context_there in
    let front : List ℕ = at 0 ∷ at 1 ∷ at 2 ∷ at 3 ∷ at 4 ∷ at 5 ∷ at 6 ∷ at 7 ∷ at 8 ∷ at 9 ∷ at 10 ∷ at 11 ∷ at 12
    ∷ at 13 ∷ at 14 ∷ [] in
    same ∙ ap (λ (a : ℕ). front ++ a ∷ []) (sym there.last)
    ∙ sym (elements-are 16 0 block there.least)

-- a list of two
pub two-are : (xs : List ℕ) → length xs ≡ 2 → get_or xs 0 0 ∷ get_or xs 1 0 ∷ [] ≡ xs
two-are xs two = sym (elements-are 2 0 xs (omega arith)) ∙ take_all 2 xs (omega arith)

-- the characters of fields are those of the header
pub header-made : (header : Header) (context : KeyContext) (size count v a b c d f g h i j k l t o n : ℕ)
    → v ≡ version_text header.version
    → a ≡ decimal_at 1000 size → b ≡ decimal_at 100 size → c ≡ decimal_at 10 size → d ≡ decimal_at 1 size
    → f ∷ g ∷ [] ≡ usage_text header.usage → h ≡ algorithm_text header.algorithm → i ≡ mode_text header.mode
    → j ∷ k ∷ [] ≡ header.key_version → l ≡ exportability_text header.exportability
    → t ≡ decimal_at 10 count → o ≡ decimal_at 1 count → n ≡ context_text context
    → v ∷ a ∷ b ∷ c ∷ d ∷ f ∷ g ∷ h ∷ i ∷ j ∷ k ∷ l ∷ t ∷ o ∷ n ∷ 48 ∷ [] ≡ header_text header context size count
unfolding made
header-made header context size count v a b c d f g h i j k l t o n vv aa bb cc' dd fg hh ii jk ll tt' oo nn =
    made-same v a b c d (f ∷ g ∷ []) h i (j ∷ k ∷ []) l t o n
    (version_text header.version) (decimal_at 1000 size) (decimal_at 100 size)
    (decimal_at 10 size) (decimal_at 1 size) (usage_text header.usage)
    (algorithm_text header.algorithm) (mode_text header.mode) header.key_version
    (exportability_text header.exportability) (decimal_at 10 count) (decimal_at 1 count) (context_text context)
    vv aa bb cc' dd fg hh ii jk ll tt' oo nn

-- a version has a character of its own
version-same : (v w : Version) → version_text v ≡ version_text w → v ≡ w
version-same A A same = refl
version-same A B same = absurd (omega arith)
version-same A C same = absurd (omega arith)
version-same B A same = absurd (omega arith)
version-same B B same = refl
version-same B C same = absurd (omega arith)
version-same C A same = absurd (omega arith)
version-same C B same = absurd (omega arith)
version-same C C same = refl

-- and so has a context
context-same : (a b : KeyContext) → context_text a ≡ context_text b → a ≡ b
context-same StorageOrExchange StorageOrExchange same = refl
context-same StorageOrExchange Storage same = absurd (omega arith)
context-same StorageOrExchange Exchange same = absurd (omega arith)
context-same Storage StorageOrExchange same = absurd (omega arith)
context-same Storage Storage same = refl
context-same Storage Exchange same = absurd (omega arith)
context-same Exchange StorageOrExchange same = absurd (omega arith)
context-same Exchange Storage same = absurd (omega arith)
context-same Exchange Exchange same = refl

-- the characters before the count, and those from it
front_text : Header → ℕ → List ℕ
front_text header size =
    version_text header.version
    ∷ decimal_at 1000 size ∷ decimal_at 100 size ∷ decimal_at 10 size ∷ decimal_at 1 size ∷ fields_text header

count_text : KeyContext → ℕ → List ℕ
count_text context count = decimal_at 10 count ∷ decimal_at 1 count ∷ context_text context ∷ 48 ∷ []

length-header : (header : Header) (context : KeyContext) (size count : ℕ)
    → length (header_text header context size count) ≡ 9 + length (fields_text header)
length-header header context size count =
    let tail : List ℕ = decimal_at 10 count ∷ decimal_at 1 count ∷ context_text context ∷ 48 ∷ [] in
    omega (arith, length-append (fields_text header) tail)

length-fields : (usage : List ℕ) (a m : ℕ) (key_version : List ℕ) (e : ℕ) → length usage ≡ 2 → length key_version ≡ 2
    → length (usage ++ a ∷ m ∷ [] ++ key_version ++ e ∷ []) ≡ 7
length-fields usage a m key_version e two version_two =
    omega (
      arith,
      length-append usage (a ∷ m ∷ []),
      length-append (usage ++ a ∷ m ∷ []) key_version,
      length-append (usage ++ a ∷ m ∷ [] ++ key_version) (e ∷ []),
    )

pub header-sixteen : (header : Header) (context : KeyContext) (size count : ℕ) → IsHeader header
    → length (header_text header context size count) ≡ 16
header-sixteen header context size count is =
    let seven : length (fields_text header) ≡ 7 =
    length-fields (usage_text header.usage) (algorithm_text header.algorithm) (mode_text header.mode)
    header.key_version (exportability_text header.exportability) is.0 is.1 in
    length-header header context size count ∙ ap (λ n. 9 + n) seven

-- a count below 100 has digits of its own
count-same : (n m : ℕ) → n < 100 → m < 100 → decimal_at 10 n ≡ decimal_at 10 m → decimal_at 1 n ≡ decimal_at 1 m
    → n ≡ m
count-same n m below above tens ones = omega arith

-- headers of the same characters have the same version, fields, count and context
pub header-same : (h k : Header) (a b : KeyContext) (size n m : ℕ) → n < 100 → m < 100
    → header_text h a size n ≡ header_text k b size m
    → (h.version ≡ k.version) × (fields_text h ≡ fields_text k) × (n ≡ m) × (a ≡ b)
unfolding front_text count_text
header-same h k a b size n m below above same =
    let long : length (fields_text k) ≡ length (fields_text h) =
    omega (arith, length-header h a size n, length-header k b size m, ap length same) in
    let from : fields_text h ++ count_text a n ≡ fields_text k ++ count_text b m = ap (drop 5) same in
    let fields : fields_text h ≡ fields_text k =
    sym (take_at (fields_text h) (count_text a n) (length (fields_text h)) refl)
    ∙ ap (take (length (fields_text h))) from
    ∙ take_at (fields_text k) (count_text b m) (length (fields_text h)) long in
    let counts : count_text a n ≡ count_text b m =
    sym (drop_at (fields_text h) (count_text a n) (length (fields_text h)) refl)
    ∙ ap (drop (length (fields_text h))) from
    ∙ drop_at (fields_text k) (count_text b m) (length (fields_text h)) long in (
      version-same h.version k.version (ap (λ (text : List ℕ). get_or text 0 0) same),
      fields,
      count-same n m below above (ap (λ (text : List ℕ). get_or text 0 0) counts)
          (ap (λ (text : List ℕ). get_or text 1 0) counts),
      context-same a b (ap (λ (text : List ℕ). get_or text 2 0) counts),
    )

-- the last four characters of a header that a block begins with
pub header-count : (header : Header) (context : KeyContext) (count : ℕ) (block : List ℕ) → 16 ≤ length block
    → header_text header context (length block) count ≡ take 16 block
    → decimal_at 10 count ∷ decimal_at 1 count ∷ context_text context ∷ 48 ∷ [] ≡ elements block 12 4
unfolding front_text count_text
header-count header context count block least same =
    let long : length (fields_text header) ≡ 7 =
    omega (arith, length-header header context (length block) count, ap length same, length-take 16 block) in
    let front : length (front_text header (length block)) ≡ 12 = omega arith in
    sym (drop_at (front_text header (length block)) (count_text context count) 12 front) ∙ ap (drop 12) same
    ∙ drop-take 12 4 block ∙ elements-are 4 12 block (omega arith)
