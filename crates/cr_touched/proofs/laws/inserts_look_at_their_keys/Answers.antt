use Rattle.cr_touched.specs.Parts.{keys_of, is_key_of}
use Rattle.cr_touched.proofs.Inserts.{kept_of_part, keys_pass, same_verdict}
use Rattle.cr_touched.proofs.laws.inserts_look_at_their_keys.Goals as goal

pub returns : goal.returns
returns c = record {
  theirs = λ def site kept more keyed defaults are. (
      let p = is_key_of (keys_of def more) in
      (same_verdict def keyed defaults kept are more p (keys_pass def more) site, kept_of_part def p kept are));
  further = λ def site kept more p keyed defaults are pass. (same_verdict def keyed defaults kept are more p pass site, kept_of_part def p kept are);
}
