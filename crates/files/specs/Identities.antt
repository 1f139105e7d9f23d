-- Which file it is, and of what kind.
use Rattle.std.specs.Prelude.{Bool, false, cond, ◌&&◌, ℕ, ◌/◌, ◌%◌, eqb, Option, Some, None}
use Rattle.files.specs.declared.identity.Identity.{Identity}

-- The kind stands in the four bits above the lowest twelve, and is 8 for a regular file.
abbrev pub is_regular : Identity → Bool
is_regular of = eqb (of.mode / 4096 % 16) 8

abbrev pub same_file : Option Identity → Option Identity → Bool
same_file (Some a) (Some b) = eqb a.device b.device && eqb a.inode b.inode
same_file (Some a) None = false
same_file None b = false

-- The lowest twelve bits say who may do what. The upper three of these go with the owner and the group.
abbrev pub kept_mode : ℕ → Bool → ℕ
kept_mode mode given = cond given (mode % 4096) (mode % 512)
