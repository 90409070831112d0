-- How a line is looked at: as it stands, as signed code, or as sealed data.
use Rattle.std.specs.Prelude.{ℕ, Bool, true, false, eqb}
use Rattle.lists.specs.If.{if}

-- the tags of a line: none, Secure Instruction, Secure Data
pub data Tag : Type 0 where
  no_tag secure_instruction secure_data : Tag

-- the tag's number in the directory and in a listing
unfoldable pub tag_number : Tag → ℕ
tag_number no_tag = 0
tag_number secure_instruction = 1
tag_number secure_data = 2

-- the tag of a number: 1 Secure Instruction, 2 Secure Data, any other none
unfoldable pub tag_named : ℕ → Tag
tag_named t = if (eqb t 1) secure_instruction (if (eqb t 2) secure_data no_tag)

-- is this the tag of a sealed line?
unfoldable pub is_data : Tag → Bool
is_data no_tag = false
is_data secure_instruction = false
is_data secure_data = true

-- is a line of this tag checked when it is filled?
unfoldable pub is_checked : Tag → Bool
is_checked no_tag = false
is_checked secure_instruction = true
is_checked secure_data = true

-- are the two tags one?
unfoldable pub same_tag : Tag → Tag → Bool
same_tag no_tag no_tag = true
same_tag no_tag secure_instruction = false
same_tag no_tag secure_data = false
same_tag secure_instruction no_tag = false
same_tag secure_instruction secure_instruction = true
same_tag secure_instruction secure_data = false
same_tag secure_data no_tag = false
same_tag secure_data secure_instruction = false
same_tag secure_data secure_data = true
