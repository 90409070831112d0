-- The ciphers of document 01: AES-128 in CBC mode, CMAC, and the key stream, in the record that the machine's meaning
-- asks for.
use Rattle.model.specs.Cipher.{Cipher}
use Rattle.sealing.specs.Lines.{mac_of, code_mac, data_mac, enciphered, deciphered}
use Rattle.sealing.specs.Stream.{stream}

unfoldable pub aes_cipher : Cipher
aes_cipher =
    record {
      encipher = enciphered;
      decipher = deciphered;
      data_mac = data_mac;
      code_mac = code_mac;
      mac = mac_of;
      stream
          = stream;
    }
