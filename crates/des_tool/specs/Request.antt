-- What the arguments of a command line ask for.
use Rattle.std.specs.Prelude.{ℕ, if◌then◌else◌, List, [], ◌∷◌, map, codes, bytes_eq, Option, Some, None}
use Rattle.std.specs.Option.{option_and_then, option_map}
use Rattle.std.specs.Borrow.{Bor}
use Rattle.des_tool.specs.declared.command.request.Cipher.{Cipher}
use Rattle.des_tool.specs.declared.command.request.Cipher.TheVariants.{Des, Ede3, Eee3, Ede2, Eee2}
use Rattle.des_tool.specs.declared.command.request.CbcCipher.{CbcCipher}
use Rattle.des_tool.specs.declared.command.request.CbcCipher.TheVariants.{DesCbc, Ede3Cbc}
use Rattle.des_tool.specs.declared.command.request.Direction.{Direction}
use Rattle.des_tool.specs.declared.command.request.Direction.TheVariants.{Encrypt, Decrypt}
use Rattle.des_tool.specs.declared.command.request.Command.{Command}
use Rattle.des_tool.specs.declared.command.request.Command.TheVariants.{Blocks, Cbc, Weak}

-- a request, with the arguments that hold digits
pub data Request : Type 0 where
  of_blocks : (cipher : Cipher) (direction : Direction) (key digits : List ℕ) → Request
  of_cbc : (cipher : CbcCipher) (direction : Direction) (key vector digits : List ℕ) → Request
  of_weak : (key : List ℕ) → Request

-- the texts of a `&[&str]`
abbrev pub texts : List (Bor (List ℕ)) → List (List ℕ)
texts arguments = map (λ argument. argument.now) arguments

-- the cipher that an argument names
abbrev pub cipher_of : List ℕ → Option Cipher
cipher_of argument =
    if bytes_eq argument (codes "des") then Some Des
    else if bytes_eq argument (codes "ede3") then Some Ede3
    else if bytes_eq argument (codes "eee3") then Some Eee3
    else if bytes_eq argument (codes "ede2") then Some Ede2
    else if bytes_eq argument (codes "eee2") then Some Eee2
    else None

-- the cipher in CBC that an argument names
abbrev pub cbc_cipher_of : List ℕ → Option CbcCipher
cbc_cipher_of argument =
    if bytes_eq argument (codes "des-cbc") then Some DesCbc
    else if bytes_eq argument (codes "ede3-cbc") then Some Ede3Cbc
    else None

-- the block cipher under it
abbrev pub block_cipher_of : CbcCipher → Cipher
block_cipher_of DesCbc = Des
block_cipher_of Ede3Cbc = Ede3

-- the bytes of a cipher's key
abbrev pub key_size_of : Cipher → ℕ
key_size_of Des = 8
key_size_of Ede3 = 24
key_size_of Eee3 = 24
key_size_of Ede2 = 16
key_size_of Eee2 = 16

-- the direction that an argument names
abbrev pub direction_of : List ℕ → Option Direction
direction_of argument =
    if bytes_eq argument (codes "encrypt") then Some Encrypt
    else if bytes_eq argument (codes "decrypt") then Some Decrypt
    else None

-- the request that the arguments are, if they have a shape that is known: CIPHER DIRECTION KEY
-- BLOCKS, CBC-CIPHER DIRECTION KEY VECTOR BLOCKS, where CBC-CIPHER names a cipher in CBC, or
-- weak KEY
abbrev pub request_of : List (List ℕ) → Option Request
request_of (cipher ∷ direction ∷ key ∷ digits ∷ []) =
    option_and_then
    (λ cipher. option_map (λ direction. of_blocks cipher direction key digits)
    (direction_of direction))
    (cipher_of cipher)
request_of (cipher ∷ direction ∷ key ∷ vector ∷ digits ∷ []) =
    option_and_then
    (λ cipher. option_map (λ direction. of_cbc cipher direction key vector digits)
    (direction_of direction))
    (cbc_cipher_of cipher)
request_of (test ∷ key ∷ []) = if bytes_eq test (codes "weak") then Some (of_weak key) else None
request_of _ = None

-- the request that a `Command` holds
abbrev pub request : Command → Request
request (Blocks cipher direction key digits) = of_blocks cipher direction key.now digits.now
request (Cbc cipher direction key vector digits) =
    of_cbc cipher direction key.now vector.now digits.now
request (Weak key) = of_weak key.now
