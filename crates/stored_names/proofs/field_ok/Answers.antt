use Rattle.std.proofs.Common.{◌≡◌, rules, ◌∙◌}
use Rattle.stored_names.proofs.Fields.{told, ends_at}
use Rattle.stored_names.proofs.field_ok.Goals as goal

pub returns : goal.returns
returns c =
    let s = c.args.s.now in
    let e : c.is_some_and.result ≡ ends_at s c.name_length.result = search rules in
    e ∙ told s _ c.name_length.ensures
