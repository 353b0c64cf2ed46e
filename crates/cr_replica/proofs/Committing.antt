-- What is kept after one more commit.
use Rattle.std.proofs.Common.{◌≡◌, List, ◌++◌, Option, ap, ◌∙◌, append_assoc}
use Rattle.cr_lattice.specs.declared.change.Change.{Change}
use Rattle.cr_lattice.specs.Keep.{keep, join}
use Rattle.cr_lattice.proofs.KeepLaws.{join_keeps_first}
use Rattle.cr_cells.specs.Marks.{Mark}
use Rattle.cr_cells.specs.Holding.{Holding, kept_of, IsSound}
use Rattle.cr_cells.specs.Commit.{committed}
use Rattle.cr_cells.proofs.LawLemmas.{kept-committed}

-- over all that was committed before it
pub kept-once_more : (h h' : Holding) (kept held more : List Change) (peer : Option Mark) → h' ≡ committed h more peer → IsSound h → kept_of h ≡ join kept held → kept_of h' ≡ join kept (held ++ more)
kept-once_more h h' kept held more peer is sound so =
    ap kept_of is
    ∙ kept-committed h more peer sound.kept
    ∙ ap (λ ks. join ks more) so
    ∙ join_keeps_first (kept ++ held) more
    ∙ ap keep (append_assoc kept held more)
