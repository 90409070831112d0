-- The tag of the meaning that the code's tag stands for.
use Rattle.model.specs.Tags.{Tag, no_tag, secure_instruction, secure_data}
use Rattle.directory.specs.declared.tag.Tag as code
use Rattle.directory.specs.declared.tag.Tag.TheVariants.{Ordinary, SecureInstruction, SecureData}

-- none, Secure Instruction, Secure Data
abbrev pub tag_in : code.Tag → Tag
tag_in Ordinary = no_tag
tag_in SecureInstruction = secure_instruction
tag_in SecureData = secure_data
