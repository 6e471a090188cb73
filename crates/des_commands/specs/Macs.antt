-- The tag of a message under a key, by the method and the key's size.
use Rattle.std.specs.Prelude.{◌≡◌, ◌⊎◌, ℕ, List, length, Option, None, IfSome, option_and_then}
use Rattle.std.specs.Io.KnownBytes.{Consumes, IsAtEnd}
use Rattle.des.specs.Des.{encryption, decryption}
use Rattle.des_mac.specs.Padding.{padded, zeros_after, one_bit_after}
use Rattle.des_mac.specs.CbcMac.{cbc_mac}
use Rattle.des_mac.specs.RetailMac.{retail_mac_of}
use Rattle.des_mac.specs.Cmac.{cmac}
use Rattle.des_payment.specs.KeyLengths.{encryption_by}
use Rattle.des_passwords.specs.HexStreams.{bytes_of}
use Rattle.des_lines.specs.declared.fault.Reason.{Reason}
use Rattle.des_lines.specs.declared.fault.FaultKind.{FaultKind}
use Rattle.des_lines.specs.declared.fault.FaultKind.TheVariants.{KeyLength, Read}
use Rattle.des_requests.specs.declared.command.PaddingMethod.{PaddingMethod}
use Rattle.des_requests.specs.declared.command.PaddingMethod.TheVariants.{One, Two}
use Rattle.des_requests.specs.declared.command.Method.{Method}
use Rattle.des_requests.specs.declared.command.Method.TheVariants.{CbcMac, Retail, Cmac}

-- a message with its padding
abbrev pub padded_by : PaddingMethod → List ℕ → List ℕ
padded_by One message = padded zeros_after message
padded_by Two message = padded one_bit_after message

-- over a cipher that answers so; retail MACs are over DES
abbrev pub tag_over : (answer : List ℕ → List ℕ) → Method → (key message : List ℕ) → List ℕ
tag_over answer (CbcMac padding) key message = cbc_mac answer (padded_by padding message)
tag_over answer (Retail padding) key message = retail_mac_of 8 encryption decryption key (padded_by padding message)
tag_over answer Cmac key message = cmac answer message

abbrev pub tag_by : Method → (key message : List ℕ) → List ℕ
tag_by method key message = tag_over (encryption_by key) method key message

-- all that a reader had was read, and this is its tag
abbrev pub IsTagOfAll : (tag_of : List ℕ → List ℕ) → (read_from read_to : Option (List ℕ)) → List ℕ → Type 0
IsTagOfAll tag_of read_from read_to tag =
    (bytes : List ℕ) × Consumes read_from read_to bytes × IsAtEnd read_to × (tag ≡ tag_of bytes)

-- this is the tag of the bytes that a text's digits write, if the text is known and is one of digits
abbrev pub IsTagOfDigits : (tag_of : List ℕ → List ℕ) → (text : Option (List ℕ)) → List ℕ → Type 0
IsTagOfDigits tag_of text tag = IfSome (option_and_then bytes_of text) (λ bytes. tag ≡ tag_of bytes)

-- the method takes keys of these bytes, over a cipher whose keys have as many as `size` says
abbrev pub IsKeyOver : (size : ℕ) → Method → List ℕ → Type 0
IsKeyOver size (Retail padding) key = length key ≡ 16
IsKeyOver size method key = length key ≡ size

-- the same over the cipher of the key's size
abbrev pub HasKeySize : Method → List ℕ → Type 0
HasKeySize (Retail padding) key = length key ≡ 16
HasKeySize method key = (length key ≡ 8) ⊎ ((length key ≡ 16) ⊎ (length key ≡ 24))

-- a message is not authenticated: the method takes no such key, or the message can't be read
abbrev pub FailsToAuthenticate : Type 0 → FaultKind → Type 0
FailsToAuthenticate IsKey kind =
    ((¬ IsKey) × (kind ≡ KeyLength None)) ⊎ ((reason : Reason) × (kind ≡ Read reason))
