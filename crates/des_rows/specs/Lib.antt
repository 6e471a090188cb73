pub mod OddCiphers
