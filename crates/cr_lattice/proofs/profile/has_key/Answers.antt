use Rattle.std.proofs.Common.{◌≡◌, ◌+◌, suc, false, eqb, refl, sym, ap, ◌∙◌, arith, add-one}
use Rattle.std.specs.Prelude.{count_by}
use Rattle.cr_lattice.specs.Check.{is_key_column, stands_at}
use Rattle.cr_lattice.specs.Profile.{has_key, key_count}
use Rattle.cr_lattice.proofs.ProfileLemmas.{not_once}
use Rattle.cr_lattice.proofs.Tested.{and_false}
use Rattle.std.proofs.lemmas.Bool.{ne_eqb}
use Rattle.cr_lattice.proofs.profile.has_key.Goals as goal

pub returns-then-count_at-ne1 : goal.returns-then-count_at-ne1
unfolding has_key
returns-then-count_at-ne1 c =
    let def = c.args.def.now in
    let before = c.loop-before.before in
    let count : c.key_len-count.result ≡ key_count def = c.key_len-count.ensures ∙ ap (count_by is_key_column) c.as_slice-columns.ensures in
    let at : c.count_at.result ≡ count_by (stands_at (suc before)) def.columns = c.count_at.ensures ∙ ap (count_by (stands_at (before + 1))) c.as_slice-columns.ensures ∙ rw add-one refl in
    let not_one : eqb (count_by (stands_at (suc before)) def.columns) 1 ≡ false = rw (← at) (ne_eqb c.count_at.result 1 c.if-count_at-ne1.true) in
    sym (rw (not_once def before (key_count def) (omega arith) not_one) (and_false _))
