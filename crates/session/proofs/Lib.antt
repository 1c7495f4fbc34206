mod ScriptLemmas
mod AnswerLemmas
mod ReadingLemmas
mod RunLemmas
mod ShellLemmas
mod RoundLemmas
mod TalkLemmas
mod TalkingLemmas
