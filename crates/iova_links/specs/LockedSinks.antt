-- What is known of a sink that several threads share.
use Rattle.std.specs.Prelude.{◌≡◌, List, ◌++◌, ◌∷◌, []}
use Rattle.iova_sink.specs.Calls.{Call}

-- this call was made of a sink: of one with some calls before it, which has it as its last one then
pub record WasCalled {D : Type 0} (calls : D → List Call) (call : Call) : Type 0 where
  pub before : D
  pub after : D
  pub made : calls after ≡ calls before ++ call ∷ []
