mod MadeLaws
mod LeftLaws
mod NeedLaws
mod CourseLaws
