-- The words of the command, in ASCII, and what they name.
use Rattle.std.specs.Prelude.{Bool, cond, ◌||◌, List, [], ◌∷◌, ◌++◌, ℕ}
use Rattle.wire.specs.Bytes.{part, same}
use Rattle.inputs.specs.declared.words.Word.{Word}
use Rattle.inputs.specs.declared.words.Word.TheVariants.{Help, Version, Faults, Check, Read, Show, Dump, Tape, Table, Sheet, Write, Rewrite, Settings, Get, Add, New, Other}

abbrev pub HELP : List ℕ
HELP = 104 ∷ (101 ∷ (108 ∷ (112 ∷ [])))

abbrev pub VERSION : List ℕ
VERSION = 118 ∷ (101 ∷ (114 ∷ (115 ∷ (105 ∷ (111 ∷ (110 ∷ []))))))

abbrev pub FAULTS : List ℕ
FAULTS = 102 ∷ (97 ∷ (117 ∷ (108 ∷ (116 ∷ (115 ∷ [])))))

abbrev pub CHECK : List ℕ
CHECK = 99 ∷ (104 ∷ (101 ∷ (99 ∷ (107 ∷ []))))

abbrev pub READ : List ℕ
READ = 114 ∷ (101 ∷ (97 ∷ (100 ∷ [])))

abbrev pub SHOW : List ℕ
SHOW = 115 ∷ (104 ∷ (111 ∷ (119 ∷ [])))

abbrev pub DUMP : List ℕ
DUMP = 100 ∷ (117 ∷ (109 ∷ (112 ∷ [])))

abbrev pub TAPE : List ℕ
TAPE = 116 ∷ (97 ∷ (112 ∷ (101 ∷ [])))

abbrev pub TABLE : List ℕ
TABLE = 116 ∷ (97 ∷ (98 ∷ (108 ∷ (101 ∷ []))))

abbrev pub SHEET : List ℕ
SHEET = 115 ∷ (104 ∷ (101 ∷ (101 ∷ (116 ∷ []))))

abbrev pub WRITE : List ℕ
WRITE = 119 ∷ (114 ∷ (105 ∷ (116 ∷ (101 ∷ []))))

abbrev pub REWRITE : List ℕ
REWRITE = 114 ∷ (101 ∷ WRITE)

abbrev pub SETTINGS : List ℕ
SETTINGS = 115 ∷ (101 ∷ (116 ∷ (116 ∷ (105 ∷ (110 ∷ (103 ∷ (115 ∷ [])))))))

abbrev pub GET : List ℕ
GET = 103 ∷ (101 ∷ (116 ∷ []))

abbrev pub ADD : List ℕ
ADD = 97 ∷ (100 ∷ (100 ∷ []))

abbrev pub NEW : List ℕ
NEW = 110 ∷ (101 ∷ (119 ∷ []))

-- Two hyphens, with which an option begins. Two commands look like options, and one has a letter for its name.

abbrev pub HYPHENS : List ℕ
HYPHENS = 45 ∷ (45 ∷ [])

abbrev pub H : List ℕ
H = 45 ∷ (104 ∷ [])

abbrev pub CUSTOMER : List ℕ
CUSTOMER = 99 ∷ (117 ∷ (115 ∷ (116 ∷ (111 ∷ (109 ∷ (101 ∷ (114 ∷ [])))))))

abbrev pub is_option : List ℕ → Bool
is_option s = same (part 2 0 s) HYPHENS

unfoldable pub is_help : List ℕ → Bool
is_help w = (same w HELP || same w (HYPHENS ++ HELP)) || same w H

abbrev pub is_version : List ℕ → Bool
is_version w = same w VERSION || same w (HYPHENS ++ VERSION)

-- WHAT THEY NAME

-- With no message.
unfoldable pub plain_word : List ℕ → Word
plain_word w =
    cond (same w TABLE) Table
    (cond (same w SETTINGS) Settings
    (cond (same w FAULTS) Faults
    (cond (is_help w) Help
    (cond (is_version w) Version
    Other))))

unfoldable pub file_word : List ℕ → Word
file_word w =
    cond (same w SHEET) Sheet
    (cond (same w WRITE) Write
    (cond (same w REWRITE) Rewrite
    (plain_word w)))

unfoldable pub word_of : List ℕ → Word
word_of w =
    cond (same w CHECK) Check
    (cond (same w READ) Read
    (cond (same w SHOW) Show
    (cond (same w DUMP) Dump
    (cond (same w TAPE) Tape
    (file_word w)))))

-- By the word behind `settings`.
unfoldable pub store_word : List ℕ → Word
store_word w = cond (same w GET) Get (cond (same w ADD) Add (cond (same w NEW) New Settings))
