use Rattle.std.proofs.Common.{◌≡◌, ap, ◌∙◌, rules}
use Rattle.std.specs.Prelude.{option_map}
use Rattle.std.specs.Option.{option_copied}
use Rattle.nb_records.specs.declared.acl.Acl.{Acl}
use Rattle.net_choice.proofs.Applied.{found_decides}
use Rattle.net_choice.specs.inner.Acls.{first_on}
use Rattle.net_choice.proofs.acls.acl_first.Goals as goal

pub returns : goal.returns
returns c =
    number
    ∙ ap (option_map (λ (x : Acl). x.id)) (c.first_on.ensures ∙ ap (λ own. first_on c.args.records.now c.args.way c.args.packet.now own c.args.switch) c.first_of-own.ensures)
    ∙ found_decides c.args.records.now c.args.way c.args.packet.now c.args.switch c.requires
  where
    number : c.map.result ≡ option_map (λ (x : Acl). x.id) (option_copied c.first_on.result)
    number = search rules
