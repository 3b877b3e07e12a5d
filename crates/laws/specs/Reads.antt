-- What a test says, in both directions.
use Rattle.std.specs.Prelude.{Bool, true, false, ◌↔◌, ◌≡◌}

-- the test holds exactly where Holds does, and fails exactly where Fails does
pub record Reads (test : Bool) (Holds Fails : Type 0) : Type 0 where
  pub holds : (test ≡ true) ↔ Holds
  pub fails : (test ≡ false) ↔ Fails
