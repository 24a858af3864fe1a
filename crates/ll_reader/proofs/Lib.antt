mod AnswerLaws
mod DefineLineLaws
mod FileLineLaws
mod FinderLaws
mod FormedLaws
