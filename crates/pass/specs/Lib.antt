-- What is said of the pass.
pub mod Pass
pub mod PassLaws
pub mod Prelude
pub mod RiseLaws
pub mod SurveyLaws
