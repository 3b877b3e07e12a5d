-- That ticks tell real time, the laws of refusals, and that what is promised determines the answers.
pub mod AnswerLaws
pub mod ClockLaws
pub mod RefusalLaws
