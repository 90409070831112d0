-- The ciphers of document 01 keep the laws on which the theorem of demand 3 rests.
use mathlib.Core.Path.{◌≡◌, ◌∙◌}
use mathlib.Core.List.{List, ◌++◌}
use Prim.Native.Nat.{ℕ}
use lib.ListN.{length}
use Rattle.lists.specs.Bytes.{Bytes, zeros}
use Rattle.lists.specs.Words.{big_bytes}
use Rattle.lists.proofs.ByteLaws.{bytes-append, bytes-zeros}
use Rattle.lists.proofs.WordLaws.{bytes-big_bytes}
use Rattle.model.specs.CipherLaws.{CipherLaws}
use Rattle.aes_standard.specs.Schedule.{key_expansion}
use Rattle.aes_standard.proofs.RoundTrip.{cipher-length, cipher-block}
use Rattle.aes_standard.proofs.ChainTrip.{cbc_encrypt-length, cbc_encrypt-bytes, cbc_decrypt-length, cbc_decrypt-bytes}
use Rattle.aes_standard.proofs.ChainTrip.{cbc_decrypt-cbc_encrypt}
use Rattle.cmac.specs.Cmac.{cmac}
use Rattle.sealing.specs.Lines.{mac_of, line_key, data_mac, start_vector, enciphered, deciphered}
use Rattle.sealing.proofs.StreamLaws.{stream-length}
use Rattle.ciphers.specs.Cipher.{aes_cipher}

-- a MAC has sixteen bytes, whatever is signed
mac-length : (drk m : List ℕ) → length (mac_of drk m) ≡ 16
unfolding mac_of cmac
mac-length drk m = cipher-length (key_expansion drk) _

-- an initialization vector is made of bytes
vector_bytes : (drk : List ℕ) (a : ℕ) → Bytes (start_vector drk a)
unfolding start_vector
vector_bytes drk a =
    (cipher-block (key_expansion (line_key drk)) (zeros 8 ++ big_bytes 8 a)
    (bytes-append (zeros 8) (big_bytes 8 a) (bytes-zeros 8) (bytes-big_bytes 8 a))).bytes

pub aes_laws : CipherLaws aes_cipher
unfolding aes_cipher enciphered deciphered data_mac
aes_laws =
    record {
      encipher-length = λ k a l h. cbc_encrypt-length (key_expansion (line_key k)) (start_vector k a) l ∙ h;
      decipher-length = λ k a l h. cbc_decrypt-length (key_expansion (line_key k)) (start_vector k a) l ∙ h;
      data_mac-length = λ k a l h. mac-length k _;
      mac-length = mac-length;
      stream-length = λ k h e. stream-length k h;
      encipher-bytes = λ k a l hk h. cbc_encrypt-bytes (key_expansion (line_key k)) (start_vector k a) l (vector_bytes k a)
          h.bytes;
      decipher-bytes = λ k a l hk h. cbc_decrypt-bytes (key_expansion (line_key k)) (start_vector k a) l (vector_bytes k a)
          h.bytes;
      decipher-encipher = λ k a l hk h. cbc_decrypt-cbc_encrypt (key_expansion (line_key k)) (start_vector k a) l
          (vector_bytes k a) h.bytes;
    }
