use Rattle.std.proofs.Common.{refl}
use Rattle.clap.specs.Words.{found_of}
use Rattle.iova_command.proofs.Getters.{source_read}
use Rattle.iova_command.proofs.said.is_given.Goals as goal

pub returns-in-Some-CommandLine : goal.returns-in-Some-CommandLine
returns-in-Some-CommandLine c =
    let read = source_read (found_of c.args.found.now) c.args.name.now c.value_source.result c.value_source.ensures in
    (λ _. cc, λ _. refl)

pub returns-in_default : goal.returns-in_default
returns-in_default c =
    let read = source_read (found_of c.args.found.now) c.args.name.now c.value_source.result c.value_source.ensures in
    (λ bad. cc, λ given. cc)

pub returns-in_default-2 : goal.returns-in_default-2
returns-in_default-2 c =
    let read = source_read (found_of c.args.found.now) c.args.name.now c.value_source.result c.value_source.ensures in
    (λ bad. cc, λ given. cc)
