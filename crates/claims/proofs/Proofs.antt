-- The claims hold: the general theorems at the ciphers of document 01.
use Rattle.demand3.proofs.Document.{demand3-from-reset}
use Rattle.instructions.proofs.Marked.{marked}
use Rattle.ciphers.specs.Cipher.{aes_cipher}
use Rattle.ciphers.proofs.Laws.{aes_laws}
use Rattle.claims.specs.Claims.{Demand3, MarkedCases}

pub a_cache_changes_the_counts_and_nothing_else : Demand3
a_cache_changes_the_counts_and_nothing_else = demand3-from-reset aes_cipher aes_laws

pub the_marked_cases_hold : MarkedCases
the_marked_cases_hold = marked aes_cipher
