-- What is told when the program stops. Source: this project's own.
use Rattle.std.specs.Prelude.{ℕ, List, [], ◌∷◌, ◌++◌, codes}
use Rattle.cr_options.specs.declared.stop.Stop.{Stop}
use Rattle.cr_options.specs.declared.stop.Stop.TheVariants.{Quit, Input, Read, Write, Store, Usage}

-- 0 where the input was served to its end, 2 where the words are refused
abbrev pub status_of : Stop → ℕ
status_of Quit = 0
status_of Input = 0
status_of Read = 1
status_of Write = 1
status_of Store = 1
status_of Usage = 2

-- two lines, with a line feed (10) between them
abbrev pub usage : List ℕ
usage = codes "usage: crsh [--db FILE [--site HEX32]]" ++ 10 ∷ codes "Without options it serves replicas in memory. "
    ++ codes "The store in FILE is opened, and where FILE holds none, one is made with the site."

abbrev pub text_of : Stop → List ℕ
text_of Quit = []
text_of Input = []
text_of Read = codes "crsh: read fault"
text_of Write = codes "crsh: write fault"
text_of Store = codes "crsh: store refused"
text_of Usage = usage
