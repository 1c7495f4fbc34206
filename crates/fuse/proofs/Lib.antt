mod Grammars
mod Chains
mod NameLaws
mod BodyLaws
mod RequestLaws
mod ReplyLaws
mod DirectoryLaws
mod ForgetLaws
