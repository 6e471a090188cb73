-- The shift register along a ciphertext, by bytes and by bits.
use Rattle.std.proofs.Common.{◌≡◌, ℕ, ◌+◌, ◌*◌, ◌/◌, ◌%◌, ◌<◌, ◌≤◌, List, [], ◌++◌, length, get_or, take, drop, bit_xor, refl, ap, ap₂, sym, ◌∙◌, arith, append_assoc, length-append, length-drop, false, Bool, ◌∷◌}
use Rattle.std.proofs.lemmas.List.{drop-drop, drop-append-le, take-append-le, take_all}
use Rattle.std.proofs.lemmas.Nat.{div_below, div-add-mod', div-mul-add, mod-mul-add}
use Rattle.std.proofs.Math.Nat.{mul-div-le, mul-add, mul-add-div, mod-add-mod, div-add-mod, div-eq_of_lt, div-one, mod-one}
use Rattle.des_modes.specs.Streams.{GoesOn, Xors, ciphertext}
use Rattle.des_modes.specs.Cfb.{block_bit, cfb_bits, cfb_stream, input_block}
use Rattle.des_modes.specs.States.{HoldsLastBits, IsAtSegment}
use Rattle.des_modes.proofs.Pieces.{GoesByFront, Xors-other, Xors-single, texts-map}
use Rattle.des.specs.Bits.{bits_of_bytes, xor}
use Rattle.des.specs.Blocks.{block_of_bits}
use Rattle.des.specs.Laws.BitLists.{length-bits_of_bytes}
use Rattle.des_modes.specs.declared.direction.Direction.{Direction}

-- what stands behind n + m bytes of IV | C, where C goes on: what stands behind m of the register and
-- of what C goes on with
pub drop-further : {X : Type 0} (iv c more : List X) (n m : ℕ) → n ≤ length (iv ++ c)
    → drop (n + m) (iv ++ (c ++ more)) ≡ drop m (drop n (iv ++ c) ++ more)
drop-further iv c more n m within =
    rw (← append_assoc iv c more, ← drop-drop m n ((iv ++ c) ++ more), drop-append-le n (iv ++ c) more within) refl

-- a register into which more is shifted
pub register-further : {X : Type 0} (iv c more register new : List X) → register ≡ drop (length c) (iv ++ c)
    → new ≡ drop (length more) (register ++ more) → new ≡ drop (length (c ++ more)) (iv ++ (c ++ more))
register-further {X} iv c more register new is shifted =
    rw (length-append c more, drop-further iv c more (length c) (length more) (omega (arith, length-append iv c)), ← is) shifted

-- a register of w bytes or bits before a segment that has begun does not depend on what comes
pub window-front : {X : Type 0} (w n : ℕ) (iv c more : List X) → length iv ≡ w → n ≤ length c
    → take w (drop n (iv ++ (c ++ more))) ≡ take w (drop n (iv ++ c))
window-front {X} w n iv c more wide begun =
    let size = length-append iv c in
    rw (← append_assoc iv c more, drop-append-le n (iv ++ c) more (omega (arith, size)))
    (take-append-le w (drop n (iv ++ c)) more (omega (arith, size, length-drop n (iv ++ c))))

-- ---- bytes, from a place behind c on

-- the initialization vector has the register's width
length-iv : (iv c register : List ℕ) → length register ≡ 8 → register ≡ drop (length c) (iv ++ c) → length iv ≡ 8
length-iv iv c register wide is = omega (arith, ap length is, length-drop (length c) (iv ++ c), length-append iv c)

pub cfb_stream-front : {s : ℕ} {E : List ℕ → List ℕ} {iv c register output : List ℕ} {used : ℕ}
    → IsAtSegment s E iv c register output used → length register ≡ 8 → GoesByFront (cfb_stream s E iv)
cfb_stream-front {s} {E} {iv} {c} {register} is wide t more i below =
    ap (λ (block : List ℕ). get_or (E block) (i % s) 0)
    (window-front 8 (s * (i / s)) iv t more (length-iv iv c register wide is.register) (omega (arith, mul-div-le i s)))

module _ {s : ℕ} {E : List ℕ → List ℕ} {iv c register output : List ℕ} {used : ℕ}
    (is : IsAtSegment s E iv c register output used) (wide : length register ≡ 8) (some : 1 ≤ s) where
  -- the output block of the segment does not depend on what comes
  same_block : (more : List ℕ) → E (input_block s iv c (length c / s)) ≡ E (input_block s iv (c ++ more) (length c / s))
  same_block more = ap E (sym (window-front 8 _ iv c more (length-iv iv c register wide is.register) (mul-div-le (length c) s)))

  -- between segments the register is the input block of the next
  between : used ≡ 0 → length c ≡ s * (length c / s)
  between unused = omega (arith, is.used, div-add-mod (length c) s)

  pub input_block-next : used ≡ 0 → register ≡ input_block s iv c (length c / s)
  input_block-next unused = rw (← between unused, ← is.register) (sym (take_all 8 register (omega arith)))

  -- so is the one before a segment of what comes
  input_block-beyond : (bytes : List ℕ) (j : ℕ) → used ≡ 0
      → take 8 (drop (s * j) (register ++ bytes)) ≡ input_block s iv (c ++ bytes) (length c / s + j)
  input_block-beyond bytes j unused =
      let at : length c + s * j ≡ s * (length c / s + j) = omega (arith, between unused, mul-add s (length c / s) j) in
      rw (is.register, ← drop-further iv c bytes (length c) (s * j) (omega (arith, length-append iv c)), at) refl

  -- i bytes further on
  segment_at : (i : ℕ) → length c / s + (used + i) / s ≡ (length c + i) / s
  segment_at i =
      rw (← mul-add-div some (length c / s) (used + i))
      (ap (λ (m : ℕ). m / s) (omega (arith, is.used, div-add-mod (length c) s)))

  place_at : (i : ℕ) → (used + i) % s ≡ (length c + i) % s
  place_at i = ap (λ (m : ℕ). (m + i) % s) is.used ∙ mod-add-mod (length c) s i

  IsAtSegment-further : {new block : List ℕ} {taken : ℕ} (bytes : List ℕ)
      → new ≡ drop (length bytes) (register ++ bytes) → taken ≡ (used + length bytes) % s
      → (1 ≤ taken → block ≡ E (input_block s iv (c ++ bytes) ((length c + length bytes) / s)))
      → IsAtSegment s E iv (c ++ bytes) new block taken
  IsAtSegment-further bytes shifted of made = record {
    register = register-further iv c bytes register _ is.register shifted;
    used = rw (length-append c bytes) (of ∙ place_at (length bytes));
    output = rw (length-append c bytes) made;
  }

  -- in a segment
  pub IsAtSegment-within : {new block : List ℕ} {taken : ℕ} (bytes : List ℕ)
      → block ≡ E (input_block s iv c (length c / s)) → new ≡ drop (length bytes) (register ++ bytes)
      → taken ≡ (used + length bytes) % s → (1 ≤ taken → used + length bytes < s)
      → IsAtSegment s E iv (c ++ bytes) new block taken
  IsAtSegment-within bytes made shifted of inside =
      IsAtSegment-further bytes shifted of (λ more.
      let here : length c / s ≡ (length c + length bytes) / s = omega (arith, segment_at (length bytes), div-eq_of_lt (inside more)) in
      rw (← here) (made ∙ same_block bytes))

  pub Xors-within : {block : List ℕ} (text more old new : List ℕ) → block ≡ E (input_block s iv c (length c / s))
      → used + length old ≤ s → length new ≡ length old
      → ((i : ℕ) → i < length old → get_or new i 0 ≡ bit_xor (get_or old i 0) (get_or block (used + i) 0))
      → Xors bit_xor 0 (length c) (cfb_stream s E iv ((c ++ text) ++ more)) old new
  Xors-within text more old new made within same xored = record {
    count = same;
    xored = λ i below.
        let inside : used + i < s = omega arith in
        let split : length c + i ≡ length c / s * s + (used + i) = omega (arith, is.used, div-add-mod' (length c) s) in
        let at = div-mul-add (length c / s) s (used + i) inside in
        rw (append_assoc c text more, split, at, mod-mul-add (length c / s) s (used + i) inside, ← same_block (text ++ more), ← made)
        (xored i below);
  }

  -- from the beginning of a segment on, by output blocks of the register and the ciphertext `bytes`
  pub goes-beyond : {after block : List ℕ} {taken : ℕ} (bytes more old new : List ℕ) (blocks : List (List ℕ)) → used ≡ 0
      → length old ≡ length bytes → length bytes ≤ s * length blocks
      → ((j : ℕ) → j < length blocks → get_or blocks j [] ≡ E (take 8 (drop (s * j) (register ++ bytes))))
      → Xors bit_xor 0 0 (λ i. get_or (get_or blocks (i / s) []) (i % s) 0) old new
      → after ≡ drop (length bytes) (register ++ bytes) → taken ≡ length bytes % s
      → (1 ≤ taken → (length bytes / s < length blocks) × (block ≡ get_or blocks (length bytes / s) []))
      → IsAtSegment s E iv (c ++ bytes) after block taken
      × Xors bit_xor 0 (length c) (cfb_stream s E iv ((c ++ bytes) ++ more)) old new
  goes-beyond bytes more old new blocks unused same enough made xors shifted of last =
      let end : length bytes ≡ used + length bytes = omega arith in
      let output_at = λ (j : ℕ) (inside : j < length blocks). made j inside ∙ ap E (input_block-beyond bytes j unused) in (
        IsAtSegment-further bytes shifted (of ∙ ap (λ (m : ℕ). m % s) end) (λ begun.
            (last begun).1 ∙ output_at (length bytes / s) (last begun).0
            ∙ ap (λ (m : ℕ). E (input_block s iv (c ++ bytes) m))
            (ap (λ (m : ℕ). length c / s + m / s) end ∙ segment_at (length bytes))),
        Xors-other (length c) (cfb_stream s E iv (c ++ bytes)) _ old new
            (λ i below. sym (cfb_stream-front is wide (c ++ bytes) more (length c + i) (omega (arith, length-append c bytes)))) (record {
              count = xors.count;
              xored = λ i below.
                  let at : 0 + i ≡ used + i = omega arith in
                  let j : ℕ = (used + i) / s in
                  xors.xored i below
                  ∙ ap (λ (m : ℕ). bit_xor (get_or old i 0) (get_or (get_or blocks (m / s) []) (m % s) 0)) at
                  ∙ ap₂ (λ (block : List ℕ) (n : ℕ). bit_xor (get_or old i 0) (get_or block n 0))
                  (output_at j (div_below (used + i) s (length blocks) some (omega arith))
                  ∙ ap (λ (n : ℕ). E (input_block s iv (c ++ bytes) n)) (segment_at i)) (place_at i);
            }),
      )

-- ---- bits, from a place behind c on

module _ (E : List ℕ → List ℕ) (iv : List ℕ) (c : List Bool) (register : List ℕ) (wide : length register ≡ 8)
    (is : HoldsLastBits iv c register) where
  -- the initialization vector has the register's width
  length-iv_bits : length (bits_of_bytes iv) ≡ 64
  length-iv_bits =
      let all : List Bool = bits_of_bytes iv ++ c in
      omega (arith, ap length is, length-bits_of_bytes register, length-drop (length c) all, length-append (bits_of_bytes iv) c)

  cfb_bits-before : (t more : List Bool) (i : ℕ) → i ≤ length t → cfb_bits 1 E iv (t ++ more) i ≡ cfb_bits 1 E iv t i
  cfb_bits-before t more i within =
      ap (λ (xs : List Bool). block_bit (E (block_of_bits xs)) (i % 1))
      (window-front 64 (1 * (i / 1)) (bits_of_bytes iv) t more length-iv_bits (omega (arith, div-one i)))

  pub cfb_bits-front : GoesByFront (cfb_bits 1 E iv)
  cfb_bits-front t more i below = cfb_bits-before t more i (omega arith)

  -- the bit that goes with the next one
  cfb_bits-next : (more : List Bool)
      → cfb_bits 1 E iv (c ++ more) (length c) ≡ block_bit (E (block_of_bits (bits_of_bytes register))) 0
  cfb_bits-next more =
      let single : 1 * (length c / 1) ≡ length c = omega (arith, div-one (length c)) in
      let whole = take_all 64 (bits_of_bytes register) (omega (arith, length-bits_of_bytes register)) in
      rw (cfb_bits-before c more (length c) (omega arith), single, mod-one (length c), ← is, whole) refl

-- a bit more
pub GoesOn-bit : (E : List ℕ → List ℕ) (iv old new : List ℕ) (direction : Direction) (x y : Bool) → length old ≡ 8
    → bits_of_bytes new ≡ drop 1 (bits_of_bytes old ++ ciphertext direction x y ∷ [])
    → y ≡ xor x (block_bit (E (block_of_bits (bits_of_bytes old))) 0)
    → GoesOn xor false (HoldsLastBits iv) (cfb_bits 1 E iv) direction old new (x ∷ []) (y ∷ [])
GoesOn-bit E iv old new direction x y wide shifted is =
    let text = (texts-map (λ (bit : Bool). bit ∷ []) direction x y).1 in record {
      goes = λ t more at. (
        register-further (bits_of_bytes iv) t _ (bits_of_bytes old) (bits_of_bytes new) at
            (rw (← text) shifted),
        Xors-single (length t) _ x y
            (rw (append_assoc t (ciphertext direction (x ∷ []) (y ∷ [])) more)
            (is ∙ ap (xor x) (sym (cfb_bits-next E iv t old wide at _)))),
      );
    }
