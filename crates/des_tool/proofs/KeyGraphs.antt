-- What a key of each cipher encrypts to: its graph is the cipher's relation.
use Rattle.std.proofs.Common.{ℕ, List, true, false}
use Rattle.des.specs.Blocks.{IsKey}
use Rattle.des.specs.Des.{encryption, decryption}
use Rattle.des.specs.TripleCiphers.{ede3_encryption, ede3_decryption, eee3_encryption, eee3_decryption, ede2_encryption, ede2_decryption, eee2_encryption, eee2_decryption}
use Rattle.des.proofs.Graphs.{IsGraphOf-encryption, IsGraphOf-decryption, IsBijection-key}
use Rattle.des.proofs.TripleGraphs.{HasGraphs, HasGraphs-Triple}
use Rattle.des_tool.specs.declared.command.request.Cipher.{Cipher}
use Rattle.des_tool.specs.declared.command.request.Cipher.TheVariants.{Des, Ede3, Eee3, Ede2, Eee2}
use Rattle.des_tool.specs.Answer.{relation_of}
use Rattle.des_tool.specs.Request.{key_size_of}

-- what a key of a cipher encrypts to
abbrev pub encryption_by : Cipher → List ℕ → List ℕ → List ℕ
encryption_by Des key = encryption key
encryption_by Ede3 key = ede3_encryption key
encryption_by Eee3 key = eee3_encryption key
encryption_by Ede2 key = ede2_encryption key
encryption_by Eee2 key = eee2_encryption key

-- and decrypts to
abbrev pub decryption_by : Cipher → List ℕ → List ℕ → List ℕ
decryption_by Des key = decryption key
decryption_by Ede3 key = ede3_decryption key
decryption_by Eee3 key = eee3_decryption key
decryption_by Ede2 key = ede2_decryption key
decryption_by Eee2 key = eee2_decryption key

-- their graphs are the cipher's relation, one from each end
pub HasGraphs-cipher : (cipher : Cipher) (key : List ℕ) → IsKey (key_size_of cipher) key
    → HasGraphs (encryption_by cipher key) (decryption_by cipher key) (λ x y. relation_of cipher key x y)
HasGraphs-cipher Des key is_key = record {
  bijective = IsBijection-key key is_key;
  encryption = IsGraphOf-encryption key is_key;
  decryption = IsGraphOf-decryption key is_key;
}
HasGraphs-cipher Ede3 key is_key = HasGraphs-Triple true true key is_key
HasGraphs-cipher Eee3 key is_key = HasGraphs-Triple true false key is_key
HasGraphs-cipher Ede2 key is_key = HasGraphs-Triple false true key is_key
HasGraphs-cipher Eee2 key is_key = HasGraphs-Triple false false key is_key
