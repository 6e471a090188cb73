-- What is encrypted behind the salt, and the characters that encode both.
use Rattle.std.proofs.Common.{◌≡◌, ◌+◌, ◌-◌, ◌*◌, ◌/◌, ◌≤◌, ℕ, List, [], ◌++◌, length, take, drop, ap, ap₂, sym, ◌∙◌, arith}
use Rattle.std.proofs.lemmas.List.{append-nil, drop-append-le, drop_all, drop_at, length-drop, length-take-le, take_at}
use Rattle.std.proofs.lemmas.Slice.{take-put_mid}
use Rattle.base64.specs.Engines.{standard}
use Rattle.base64.specs.GeneralPurpose.{encode_of}
use Rattle.des_columns.specs.Jasypt.{IsWritten, WritesBy}
use Rattle.des_columns.specs.Pbe.{derived_by}
use Rattle.des_columns.specs.declared.pbe.Algorithm.{Algorithm}
use Rattle.des_columns.proofs.Turns.{length-put}
use Rattle.des_columns.proofs.jasypt.write_value.Goals as goal
use borrow.Rule.Slice.PartMut.{put_mid}

written-of : (by : Algorithm) (count : ℕ) (password salt text both encrypted value : List ℕ) → length salt ≡ 8
    → both ≡ derived_by by password salt count → WritesBy by both text encrypted
    → value ≡ encode_of standard (salt ++ encrypted) → IsWritten by count password (salt ++ text) value
written-of by count password salt text both encrypted value eight is writes encoded =
    let front : take 8 (salt ++ text) ≡ salt = take_at salt text 8 eight in
    record {
      encrypted = encrypted;
      writes = rw (front, drop_at salt text 8 eight, ← is) writes;
      value_is = encoded ∙ ap (λ l. encode_of standard (l ++ encrypted)) (sym front);
    }

pub returns : goal.returns
returns c =
    let salt : List ℕ = c.args.salt.now in
    let old : List ℕ = c.args.value.now in
    let start : ℕ = length old - (length c.args.text.now / 8 + 2) * 8 in
    let encrypted : List ℕ = c.encrypt_by.new.encrypted in
    let salted : List ℕ = c.copy_from_slice.new.self in
    let eight : length salted ≡ 8 = ap length c.copy_from_slice.ensures.after ∙ c.told-salt in
    let within : start + 8 ≤ length old = omega (arith, c.requires.value) in
    let begun : List ℕ = put_mid start (start + 8 - start) old salted in
    let long : length begun ≡ length old = length-put start (start + 8 - start) old salted (omega (arith, within)) (omega (arith, eight)) in
    let front : take (start + 8) begun ≡ take start old ++ salted =
    take-put_mid start (start + 8 - start) old salted (start + 8) (omega (arith, eight)) (omega (arith, within)) in
    let before : length (take start old) ≡ start = length-take-le start old (omega (arith, within)) in
    let post : List ℕ = drop (length begun - (start + 8)) (drop (start + 8) begun) in
    let none : post ≡ [] = drop_all (length begun - (start + 8)) (drop (start + 8) begun) (omega (arith, length-drop (start + 8) begun)) in
    written-of c.args.by c.args.iterations c.args.password.now salt c.args.text.now c.derive.new.both encrypted c.encode.new.place
    c.told-salt c.derive.ensures c.encrypt_by.ensures
    (c.encode.ensures
    ∙ ap (encode_of standard)
    (drop-append-le start (take (start + 8) begun) (encrypted ++ post)
    (omega (arith, length-take-le (start + 8) begun (omega (arith, long, within))))
    ∙ ap₂ ◌++◌ (ap (drop start) front ∙ drop_at (take start old) salted start before ∙ c.copy_from_slice.ensures.after)
    (ap (λ l. encrypted ++ l) none ∙ append-nil encrypted)))
