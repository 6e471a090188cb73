-- What is read of values under keys by their numbers.
use Rattle.std.proofs.Common.{◌≡◌, ℕ, ℤ, ◌<◌, Bool, true, false, if◌then◌else◌, Option, Some, None, List, [], ◌∷◌, get_or, is_some, replicate, refl, ap, ◌∙◌, arith}
use Rattle.std.specs.Option.{option_or, unwrap_or}
use Rattle.std.proofs.lemmas.List.Elements.{All-replicate}
use Rattle.des.specs.Blocks.{AreBytes, IsBlock, IsKey, part}
use Rattle.des.specs.Triple.{EnciphersEde3}
use Rattle.des.specs.TripleCiphers.{ede3_decryption, ede3_encryption}
use Rattle.des.specs.Laws.Passes.{IsPass-through, IsPass-turned}
use Rattle.des.specs.Laws.DesLaws.{IsPass-key}
use Rattle.des.proofs.TripleGraphs.{HasGraphs-Triple}
use Rattle.des_columns.specs.Columns.{ReadsAs, fault_under, plain_of}
use Rattle.des_columns.specs.Forms.{size_in, status_after, text_after}
use Rattle.des_columns.specs.KeyFile.{has_key}
use Rattle.des_columns.specs.Mysql.{has_form, number_of}
use Rattle.des_columns.specs.MysqlColumns.{ReadsUnder}
use Rattle.des_columns.specs.declared.form.BlockMode.{BlockMode}
use Rattle.des_columns.specs.declared.form.BlockMode.TheVariants.{Cbc}
use Rattle.des_columns.specs.declared.form.ValueForm.TheVariants.{Mysql}
use Rattle.des_columns.specs.declared.status.TheConstants.{ERR_KEY_NUMBER, ERR_NOT_ENCRYPTED}
use Rattle.des_columns.proofs.ReadValues.{plain-encrypted}

zeros-block : IsBlock (replicate 8 0)
zeros-block = (refl, All-replicate (λ byte. byte < 256) 8 0 (omega arith))

-- the key of a value, zeros if there is none, and what the value is decrypted to
abbrev pub key_for : List (Option (List ℕ)) → List ℕ → List ℕ
key_for keys value = unwrap_or (get_or keys (number_of value) None) (replicate 24 0)

abbrev pub zeros : BlockMode
zeros = Cbc (replicate 8 0)

abbrev plain_by : List (Option (List ℕ)) → List ℕ → List ℕ
plain_by keys = plain_of Mysql zeros (λ value. ede3_decryption (key_for keys value))

-- there is a key, if there is one of the number
has-key : (keys : List (Option (List ℕ))) (value key : List ℕ) → get_or keys (number_of value) None ≡ Some key
    → has_key keys value ≡ true
has-key keys [] key some = refl
has-key keys (byte ∷ value) key some = ap is_some some

-- what is read where there is none
faulty : (form : Bool) (size : Option ℕ) (plain : List ℕ)
    → let fault = option_or (if form then None else Some ERR_NOT_ENCRYPTED) (Some ERR_KEY_NUMBER) in
    (status_after fault size ≡ (if form then ERR_KEY_NUMBER else ERR_NOT_ENCRYPTED)) × (text_after fault size plain ≡ [])
faulty true size plain = (refl, refl)
faulty false size plain = (refl, refl)

pub reads-by-number : (keys : List (Option (List ℕ))) (value : List ℕ) (key : Option (List ℕ)) (status : ℤ) (text : List ℕ)
    → get_or keys (number_of value) None ≡ key
    → ((k : List ℕ) → get_or keys (number_of value) None ≡ Some k → IsKey 24 k) → AreBytes value
    → ReadsAs Mysql zeros (has_key keys) (λ value. ede3_decryption (key_for keys value)) value status text
    → ReadsUnder key value status text
reads-by-number keys [] None status text none are_keys are reads = reads
reads-by-number keys (byte ∷ value) None status text none are_keys are reads =
    let plain : List ℕ = plain_by keys (byte ∷ value) in
    let has : has_key keys (byte ∷ value) ≡ false = ap is_some none in
    let read = faulty (has_form (byte ∷ value)) (size_in Mysql plain) plain in (
      reads.0 ∙ ap (λ (b : Bool). status_after (fault_under b Mysql (byte ∷ value)) (size_in Mysql plain)) has ∙ read.0,
      reads.1 ∙ ap (λ (b : Bool). text_after (fault_under b Mysql (byte ∷ value)) (size_in Mysql plain) plain) has ∙ read.1,
    )
reads-by-number keys value (Some key) status text some are_keys are reads =
    let plain : List ℕ = plain_by keys value in
    let key_is : key_for keys value ≡ key = ap (λ (o : Option (List ℕ)). unwrap_or o (replicate 24 0)) some in
    let is_key : IsKey 24 key = are_keys key some in
    let pass = IsPass-through (IsPass-key (part 1 key)) (IsPass-turned (IsPass-key (part 2 key))) (IsPass-key (part 3 key)) in
    let has : has_key keys value ≡ true = has-key keys value key some in
    record {
      plain = plain;
      encrypted =
          rw key_is (plain-encrypted (EnciphersEde3 key) (ede3_encryption key) (ede3_decryption key)
          (HasGraphs-Triple true true key is_key).encryption pass.back_is_block pass.forth_back Mysql zeros value zeros-block are);
      status_is = reads.0 ∙ ap (λ (b : Bool). status_after (fault_under b Mysql value) (size_in Mysql plain)) has;
      text_is = reads.1 ∙ ap (λ (b : Bool). text_after (fault_under b Mysql value) (size_in Mysql plain) plain) has;
    }
