-- `lead` meets its contract.
use Rattle.serializer.proofs.TextLaws.{lead_is, prefix_ready, prefix_works, rises_prefix}
use Rattle.serializer.proofs.WorksLaws.{out_able_as, out_as, out_first, out_able, out_then}
use Rattle.serializer.proofs.texts.lead.Goals as goal

pub indent-a-requires : goal.indent-a-requires
indent-a-requires c = out_first rises_prefix (out_able_as (lead_is _ _) c.requires)

pub put_prefix-w-requires : goal.put_prefix-w-requires
put_prefix-w-requires c = prefix_ready (out_able c.indent-a.ensures (out_able_as (lead_is _ _) c.requires))

pub returns : goal.returns
returns c = out_as (lead_is _ _) (out_then c.indent-a.ensures (prefix_works c.put_prefix-w.ensures))
