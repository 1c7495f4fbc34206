mod UsingLaws
