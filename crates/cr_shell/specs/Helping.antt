-- What `.help` shows. Source: this project's own line format.
use Rattle.std.specs.Prelude.{ℕ, List, ◌++◌, codes}

unfoldable pub help_text : List ℕ
help_text =
    codes ".open NAME SITE     opens a replica and uses it; SITE is 32 hexadecimal digits\n"
    ++ codes ".use NAME           uses another replica\n"
    ++ codes ".table NAME COL ..  defines a replicated table; a COL is name:TYPE, with * before\n"
    ++ codes "                    it for the key, ! for NOT NULL, =VALUE behind it for a DEFAULT\n"
    ++ codes ".take CHANGE        takes a change, written as .changes prints it\n"
    ++ codes ".rows NAME          shows the rows of a table\n"
    ++ codes ".changes N          shows the changes above version N\n"
    ++ codes ".pull NAME          takes all changes of another replica\n"
    ++ codes ".pullnew NAME       takes those that came to it since the last .pullnew\n"
    ++ codes ".deny TABLE COL     refuses statements that read the column\n"
    ++ codes ".ignore TABLE COL   has the column read as NULL\n"
    ++ codes ".allow TABLE COL    lets the column be read again\n"
    ++ codes ".veto N             refuses commits of more than N changes\n"
    ++ codes ".veto off           refuses none for their number\n"
    ++ codes ".help               shows this\n"
    ++ codes ".quit               ends\n"
    ++ codes "Any other line is SQL, which is run once a ; ends it.\n"
