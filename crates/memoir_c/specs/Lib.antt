pub mod Numbers
pub mod CallReplies
pub mod PlainAnswers
